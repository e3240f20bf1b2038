-- What one read behind the bytes of a window answers and leaves. Which bytes come is the system's to say.
use Rattle.std.specs.Prelude.{ℕ, ◌≤◌, ◌<◌, ◌≡◌, List, true, false, length, take, None, Result, Err, IfOk, IfErr, IsSome}
use Rattle.input.specs.declared.Block.{Block}
use Rattle.input.specs.declared.Unread.{Unread}

-- the bytes that wait stay, and the window is as long as it was
pub record Kept (before : List ℕ) (filled : ℕ) (after : List ℕ) : Type 0 where
  pub stay : take filled after ≡ take filled before
  pub size : length after ≡ length before

-- where the bytes end after a read that did not fail: behind those that wait or where they ended, and within the window. Where the input has ended none came, and where it
-- has not, some came.
pub record Came (before : List ℕ) (filled : ℕ) (b : Block) : Type 0 where
  pub from : filled ≤ b.end
  pub within : b.end ≤ length before
  pub none_last : b.last ≡ true → b.end ≡ filled
  pub some : b.last ≡ false → filled < b.end

-- a read behind the bytes that wait: they stay, also where it failed. Then it has its error, and none came.
pub record Behind (before : List ℕ) (filled : ℕ) (after : List ℕ) (outcome : Result Block Unread) : Type 0 where
  pub kept : Kept before filled after
  pub came : IfOk outcome (Came before filled)
  pub failed : IfErr outcome (λ unread. IsSome unread.error)

-- a read that failed has its error; where none was made there is none
pub record Explained (before : List ℕ) (filled : ℕ) (outcome : Result Block Unread) : Type 0 where
  pub made : filled < length before → IfErr outcome (λ unread. IsSome unread.error)
  pub none : length before ≤ filled → IfErr outcome (λ unread. unread.error ≡ None)

-- no read: the window is as it was, and that is a failure
pub record NotRead (before after : List ℕ) (outcome : Result Block Unread) : Type 0 where
  pub same : after ≡ before
  pub failed : outcome ≡ Err (record { error = None })

-- a window with room is read behind the bytes that it holds; one that has none, or is said to hold more bytes than it has, is not read
pub record Read (before : List ℕ) (filled : ℕ) (after : List ℕ) (outcome : Result Block Unread) : Type 0 where
  pub room : filled < length before → Behind before filled after outcome
  pub none : length before ≤ filled → NotRead before after outcome
