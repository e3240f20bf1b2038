-- The list of an answer's admissions, four numbers of each: one more is put in, and those before it stay.
use Prim.Native.Nat.{ℕ, suc, ◌+◌, ◌-◌, ◌*◌, ◌%◌, ◌<◌}
use mathlib.Core.Path.{◌≡◌, refl, ap, ap₂, ◌∙◌}
use mathlib.Core.Logic.{◌⊎◌, inl, inr, ◌≢◌}
use mathlib.Core.List.{List}
use native.Mathlib.Nat.{mod-eq_of_lt, sub_self}
use native.Mathlib.Omega.{arith}
use lib.ListN.{length, get_or, set, length-set}
use lib.Seq.{get_or-set_same, get_or-set_other}
use Rattle.objects.proofs.Laws.Below.{below_suc}
use Rattle.rules.specs.declared.State.{State}
use Rattle.rules.specs.declared.State.TheVariants.{Absent, Plain, Waiting, Executing}
use Rattle.rules.specs.declared.Task.{Task}
use Rattle.rules.specs.declared.Admission.{Admission}
use Rattle.rules.specs.Tasks.{no_task}
use Rattle.rules.specs.Scan.{no_admission}
use Rattle.report.specs.Items.{wait}
use Rattle.report.specs.Booking.{ticks_of, wait_item}
use Rattle.tally.specs.Listed.{listed_wait}
use Rattle.tally.specs.Parts.{since_of, Lists}

-- the ticks of a wait that ends now are those since the tick that it counts from
pub ticks_since : (state : State) (tick : ℕ) → tick - since_of state tick ≡ ticks_of state tick
ticks_since Absent tick = sub_self tick
ticks_since Plain tick = sub_self tick
ticks_since (Waiting w) tick = refl
ticks_since Executing tick = sub_self tick

-- four numbers at place k
abbrev pub put_four : List ℕ → ℕ → ℕ → ℕ → ℕ → ℕ → List ℕ
put_four list k a b c d = set (set (set (set list (k * 4) a) (k * 4 + 1) b) (k * 4 + 2) c) (k * 4 + 3) d

module _ (list : List ℕ) (k a b c d : ℕ) where
  pub four_length : length (put_four list k a b c d) ≡ length list
  four_length =
      length-set (set (set (set list (k * 4) a) (k * 4 + 1) b) (k * 4 + 2) c) (k * 4 + 3) d
      ∙ length-set (set (set list (k * 4) a) (k * 4 + 1) b) (k * 4 + 2) c ∙ length-set (set list (k * 4) a) (k * 4 + 1) b ∙ length-set list (k * 4) a

  -- elsewhere the numbers stay
  four_other : (p : ℕ) → p ≢ k * 4 → p ≢ k * 4 + 1 → p ≢ k * 4 + 2 → p ≢ k * 4 + 3 → get_or (put_four list k a b c d) p 0 ≡ get_or list p 0
  four_other p n₀ n₁ n₂ n₃ =
      get_or-set_other (set (set (set list (k * 4) a) (k * 4 + 1) b) (k * 4 + 2) c) (k * 4 + 3) p d 0 n₃
      ∙ get_or-set_other (set (set list (k * 4) a) (k * 4 + 1) b) (k * 4 + 2) p c 0 n₂ ∙ get_or-set_other (set list (k * 4) a) (k * 4 + 1) p b 0 n₁
      ∙ get_or-set_other list (k * 4) p a 0 n₀

  wait_other : (tick j : ℕ) → j < k → listed_wait (put_four list k a b c d) tick j ≡ listed_wait list tick j
  wait_other tick j l =
      waits (four_other (j * 4) (λ q. omega arith) (λ q. omega arith) (λ q. omega arith) (λ q. omega arith))
      (four_other (j * 4 + 1) (λ q. omega arith) (λ q. omega arith) (λ q. omega arith) (λ q. omega arith))
      (four_other (j * 4 + 2) (λ q. omega arith) (λ q. omega arith) (λ q. omega arith) (λ q. omega arith))
      (four_other (j * 4 + 3) (λ q. omega arith) (λ q. omega arith) (λ q. omega arith) (λ q. omega arith))
    where
      waits : {i i' p p' q q' r r' : ℕ} → i ≡ i' → p ≡ p' → q ≡ q' → r ≡ r' → wait (i % 64) (tick - r) p q ≡ wait (i' % 64) (tick - r') p' q'
      waits e f g h = rw (e, f, g, h)

  -- and there they are those
  module _ (inside : k * 4 + 3 < length list) where
    wait_there : (tick : ℕ) → listed_wait (put_four list k a b c d) tick k ≡ wait (a % 64) (tick - d) b c
    wait_there tick = waits at₀ at₁ at₂ at₃
      where
        l₀ : List ℕ
        l₀ = set list (k * 4) a

        l₁ : List ℕ
        l₁ = set l₀ (k * 4 + 1) b

        l₂ : List ℕ
        l₂ = set l₁ (k * 4 + 2) c

        at₀ : get_or (put_four list k a b c d) (k * 4) 0 ≡ a
        at₀ =
            get_or-set_other l₂ (k * 4 + 3) (k * 4) d 0 (λ q. omega arith) ∙ get_or-set_other l₁ (k * 4 + 2) (k * 4) c 0 (λ q. omega arith)
            ∙ get_or-set_other l₀ (k * 4 + 1) (k * 4) b 0 (λ q. omega arith) ∙ get_or-set_same list (k * 4) a 0 (omega arith)

        at₁ : get_or (put_four list k a b c d) (k * 4 + 1) 0 ≡ b
        at₁ =
            get_or-set_other l₂ (k * 4 + 3) (k * 4 + 1) d 0 (λ q. omega arith) ∙ get_or-set_other l₁ (k * 4 + 2) (k * 4 + 1) c 0 (λ q. omega arith)
            ∙ get_or-set_same l₀ (k * 4 + 1) b 0 (omega (arith, length-set list (k * 4) a))

        at₂ : get_or (put_four list k a b c d) (k * 4 + 2) 0 ≡ c
        at₂ =
            get_or-set_other l₂ (k * 4 + 3) (k * 4 + 2) d 0 (λ q. omega arith)
            ∙ get_or-set_same l₁ (k * 4 + 2) c 0 (omega (arith, length-set list (k * 4) a, length-set l₀ (k * 4 + 1) b))

        at₃ : get_or (put_four list k a b c d) (k * 4 + 3) 0 ≡ d
        at₃ =
            get_or-set_same l₂ (k * 4 + 3) d 0 (omega (arith, length-set list (k * 4) a, length-set l₀ (k * 4 + 1) b, length-set l₁ (k * 4 + 2) c))

        waits : {i p q r : ℕ} → i ≡ a → p ≡ b → q ≡ c → r ≡ d → wait (i % 64) (tick - r) p q ≡ wait (a % 64) (tick - d) b c
        waits e f g h = rw (e, f, g, h)

-- one admission more
pub lists_more : (tasks : List Task) (tick : ℕ) (admitted : List Admission) (k : ℕ) (list : List ℕ) → k * 4 + 3 < length list → Lists tasks tick admitted k list →
    let a = get_or admitted k no_admission in
    a.task < 64 → (since : ℕ) → since ≡ since_of (get_or tasks a.task no_task).state tick
    → Lists tasks tick admitted (suc k) (put_four list k a.task a.clashes a.retries since)
lists_more tasks tick admitted k list inside before low since is j l = go (below_suc j k l)
  where
    a : Admission
    a = get_or admitted k no_admission

    go : (j ≡ k) ⊎ (j < k) → listed_wait (put_four list k a.task a.clashes a.retries since) tick j ≡ wait_item tasks tick (get_or admitted j no_admission)
    go (inr m) = wait_other list k a.task a.clashes a.retries since tick j m ∙ before j m
    go (inl q) =
        rw q
        (wait_there list k a.task a.clashes a.retries since inside tick
        ∙ ap₂ (λ (i ticks : ℕ). wait i ticks a.clashes a.retries) (mod-eq_of_lt low)
        (ap (λ (n : ℕ). tick - n) is ∙ ticks_since (get_or tasks a.task no_task).state tick))
