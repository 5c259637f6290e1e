use mathlib.Core.Path.{◌≡◌, ap, ◌∙◌}
use mathlib.Core.List.{List}
use Prim.Native.Nat.{ℕ, ◌+◌, ◌-◌, ◌*◌, ◌/◌}
use native.Mathlib.Omega.{arith}
use lib.ListN.{length, drop, length-take, length-drop}
use Rattle.elements.specs.Writing.{number_pieces, put_pieces}
use Rattle.elements.proofs.Gathered.{fit_part, part_put, part_next, the_rest}
use Rattle.elements.proofs.numbers.put_eights.Goals as goal

pub gathered-v-requires : goal.gathered-v-requires
gathered-v-requires c =
    let i : ℕ = 8 * c.loop-k.k in
    (omega (arith, length-take (i + 8 - i) (drop i c.args.items.now)), fit_part i (i + 8 - i) _ c.requires.0)

pub loop-k-preserved : goal.loop-k-preserved
loop-k-preserved c =
    let i : ℕ = 8 * c.loop-k.k in (
      c.put_bits.auto.buf ∙ c.loop-k.invariant.0,
      part_next _ _ _ (c.args.at + 56 * c.loop-k.k) i (i + 8 - i) 56 _ _ _
          c.requires.0 (omega arith) (omega arith) (omega (arith, c.requires.1)) c.gathered-v.ensures (omega arith)
          c.put_bits.ensures (8 * (c.loop-k.k + 1)) (c.args.at + 56 * (c.loop-k.k + 1)) (omega arith) (omega arith) ∙
          c.loop-k.invariant.1,
    )

pub gathered-requires : goal.gathered-requires
gathered-requires c =
    let n : ℕ = length c.args.items.now in
    let i : ℕ = 8 * (n / 8) in
    (omega (arith, length-take (n - i) (drop i c.args.items.now)), fit_part i (n - i) _ c.requires.0)

pub returns : goal.returns
returns c =
    let n : ℕ = length c.args.items.now in
    let i : ℕ = 8 * (n / 8) in
    let all : c.loop-k.k ≡ n / 8 = omega arith in
    part_put _ _ _ _ i (n - i) _ _ _ _ c.requires.0 (omega arith) (omega arith) (omega (arith, c.requires.1))
    c.gathered.ensures (omega (arith, length-take (n - i) (drop i c.args.items.now), length-drop i c.args.items.now))
    c.put_bits-2.ensures
    ∙ ap (λ (l : List ℕ). put_pieces c.loop-k.buf c.args.end (c.args.at + 56 * (n / 8)) (number_pieces 127 l)) (the_rest c.args.items.now i)
    ∙ rw all at c.loop-k.invariant.1
