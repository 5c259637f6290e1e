use mathlib.Core.Path.{◌≡◌, ap, ◌∙◌}
use mathlib.Core.List.{List}
use Prim.Native.Nat.{ℕ, ◌+◌, ◌-◌, ◌*◌, ◌/◌}
use native.Mathlib.Omega.{arith}
use lib.ListN.{length, drop, length-take, length-drop}
use Rattle.elements.specs.Writing.{number_pieces, put_pieces}
use Rattle.elements.proofs.Gathered.{fit_part, the_rest}
use Rattle.elements.proofs.Sixteens.{sixteen_next}
use Rattle.elements.proofs.numbers.put_sixteens.Goals as goal

pub put_sixteen-requires : goal.put_sixteen-requires
put_sixteen-requires c =
    let i : ℕ = 16 * c.loop-k.k in (
      omega (arith, length-take (i + 16 - i) (drop i c.args.items.now), length-drop i c.args.items.now),
      fit_part i (i + 16 - i) _ c.requires.0,
      omega (arith, c.requires.1, c.loop-k.invariant.0),
    )

pub loop-k-preserved : goal.loop-k-preserved
loop-k-preserved c =
    let i : ℕ = 16 * c.loop-k.k in (
      c.put_sixteen.auto.buf ∙ c.loop-k.invariant.0,
      sixteen_next _ _ _ (c.args.at + 112 * c.loop-k.k) i (i + 16 - i) _
          c.requires.0 (omega arith) (omega (arith, c.requires.1, c.loop-k.invariant.0)) c.put_sixteen.ensures
          (16 * (c.loop-k.k + 1)) (c.args.at + 112 * (c.loop-k.k + 1)) (omega arith) (omega arith) ∙
          c.loop-k.invariant.1,
    )

pub put_eights-requires : goal.put_eights-requires
put_eights-requires c =
    let n : ℕ = length c.args.items.now in
    let i : ℕ = 16 * (n / 16) in (
      fit_part i (n - i) _ c.requires.0,
      omega (
        arith,
        c.requires.1,
        c.loop-k.invariant.0,
        length-take (n - i) (drop i c.args.items.now),
        length-drop i c.args.items.now,
      ),
    )

pub returns : goal.returns
returns c =
    let n : ℕ = length c.args.items.now in
    let i : ℕ = 16 * (n / 16) in
    let all : c.loop-k.k ≡ n / 16 = omega arith in
    c.put_eights.ensures
    ∙ ap (λ (l : List ℕ). put_pieces c.loop-k.buf c.args.end (c.args.at + 112 * (n / 16)) (number_pieces 127 l)) (the_rest c.args.items.now i)
    ∙ rw all at c.loop-k.invariant.1
