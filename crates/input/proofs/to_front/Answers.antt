-- What is copied to the front is the part, also where its ends lie past the window.
use Rattle.std.proofs.Common.{◌≡◌, ℕ, ◌+◌, ◌-◌, List, ◌++◌, min, length, take, drop, sym, ap, ◌∙◌, arith, length-drop}
use Rattle.std.proofs.lemmas.List.{drop-take, take_min, drop_min, length-take}
use Rattle.input.specs.Part.{part}
use Rattle.input.proofs.to_front.Goals as goal

module _ (w : List ℕ) (from end e f : ℕ) (he : e ≡ min end (length w)) (hf : f ≡ min from e) where
  copied : take (e - f) (drop f w) ≡ part from end w
  copied =
      let up_to : f + (e - f) ≡ min end (length w) = omega arith in
      let inside : f ≡ min from (length (take end w)) = omega (arith, length-take end w) in
      sym (drop-take f (e - f) w)
      ∙ ap (λ k. drop f (take k w)) up_to
      ∙ ap (drop f) (take_min end w)
      ∙ ap (λ k. drop k (take end w)) inside
      ∙ drop_min from (take end w)

  copied_count : 0 + (e - f) ≡ length (part from end w)
  copied_count = omega (arith, length-drop from (take end w), length-take end w)

pub returns-clause-leaves : goal.returns-clause-leaves
returns-clause-leaves c =
    let w = c.args.window.now in
    let from = c.args.from in
    let end = c.args.end in
    let e = c.min-end.result in
    let f = c.min-from.result in
    c.copy_within.ensures.after
    ∙ ap (λ l. l ++ drop (0 + (e - f)) w) (copied w from end e f c.min-end.ensures (omega arith))
    ∙ ap (λ k. part from end w ++ drop k w) (copied_count w from end e f c.min-end.ensures (omega arith))
