use mathlib.Core.Path.{◌≡◌, ap, sym, ◌∙◌}
use Prim.Native.Nat.{ℕ}
use native.Mathlib.Omega.{arith}
use lib.ListN.{length}
use Rattle.std.proofs.Common.{rules}
use Rattle.std.specs.Prelude.{Err, Ok}
use Rattle.bits.proofs.Bytes.{bits_to_is, length_to}
use Rattle.bits.proofs.Inside.{is_within, not_within}
use Rattle.fields.specs.Fields.{refusal}
use Rattle.fields.specs.declared.Fault.TheVariants.{Tail}
use Rattle.inner.specs.declared.values.Unopened.TheVariants.{Refused}
use Rattle.layout.proofs.InOrder.{putting_start, putting_more, putting_done, length_place}
use Rattle.layout.proofs.Pieces.{length_front}
use Rattle.layout.proofs.Texts.{element_inside}
use Rattle.layout.proofs.RowsRead.{few_taken, none_taken, reading_start, reading_turn, reading_inside, reading_few, row_refused, row_tail, row_taken}
use Rattle.layout.proofs.reading.read_row.Goals as goal

pub loop-i-init : goal.loop-i-init
loop-i-init c = reading_start _ _ _ _

pub returns-in_err-e : goal.returns-in_err-e
returns-in_err-e c =
    let e : c.from_residual.result ≡ Err (Refused c.in_err-e.field-0.0) = search rules in (
      rw e (row_refused _ _ _ _ _ _ _ _ _ c.loop-i.invariant _ _ _ c.loop-i-test.true _ c.read_element.ensures _ c.in_err-e.was),
      λ (k : ℕ) h. none_taken _ k (sym e ∙ h),
    )

pub bounds-places-i : goal.bounds-places-i
bounds-places-i c = omega (arith, c.loop-i.invariant.five)

pub overflow_mul-starts : goal.overflow_mul-starts
overflow_mul-starts c =
    omega (
      arith,
      length_to c.args.s.now c.args.end,
      element_inside _ _ _ _ _ _ (bits_to_is _ _) c.read_element.ensures c.in_ok-e.was,
    )

pub overflow_sub-starts : goal.overflow_sub-starts
overflow_sub-starts c =
    omega (arith, element_inside _ _ _ _ _ _ (bits_to_is _ _) c.read_element.ensures c.in_ok-e.was)

pub loop-i-preserved : goal.loop-i-preserved
loop-i-preserved c =
    reading_turn _ _ _ _ _ _ _ _ _ c.loop-i.invariant c.loop-i-test.true _ c.read_element.ensures c.requires.0
    (bits_to_is _ _) _ _ c.in_ok-e.was

pub returns-then-within : goal.returns-then-within
returns-then-within c =
    let e : c.map_err.result ≡ Err (Refused (refusal c.loop-i.p Tail)) = search rules in (
      rw e (row_tail _ _ _ _ _ _ _ _ _ c.loop-i.invariant _ _ _ c.loop-i-test.false c.loop-i.auto.i-end c.requires.0
          (bits_to_is _ _) (is_within _ _ _ _ _ c.within.ensures c.if-within.true).test),
      λ (k : ℕ) h. none_taken _ k (sym e ∙ h),
    )

pub front_bytes-requires : goal.front_bytes-requires
front_bytes-requires c = omega (arith, c.requires.0)

pub put_bytes-requires : goal.put_bytes-requires
put_bytes-requires c = omega (arith, c.requires.1, ap length c.front_bytes.ensures ∙ length_front _ _)

pub loop-k-init : goal.loop-k-init
loop-k-init c = putting_start _ _

pub bounds-places-k : goal.bounds-places-k
bounds-places-k c = omega (arith, c.loop-i.invariant.five, c.loop-k-test.true)

pub put_bytes-requires-in-loop-k : goal.put_bytes-requires-in-loop-k
put_bytes-requires-in-loop-k c =
    omega (
      arith,
      c.requires.1,
      c.put_bytes.auto.out,
      c.loop-k.invariant.same,
      ap length c.place_bytes.ensures ∙ length_place _,
    )

pub loop-k-preserved : goal.loop-k-preserved
loop-k-preserved c =
    putting_more _ _ _ _ _ _ _ c.loop-i.invariant.five c.loop-k-test.true
    c.place_bytes.ensures c.put_bytes-in-loop-k.ensures c.put_bytes-in-loop-k.auto.out
    c.loop-k.invariant

pub copy_texts-requires : goal.copy_texts-requires
copy_texts-requires c = (
  c.requires.0,
  reading_inside _ _ _ _ _ _ _ _ _ c.loop-i.invariant c.loop-i-test.false c.loop-i.auto.i-end c.requires.0 (bits_to_is _ _),
  omega (
    arith,
    c.requires.2,
    reading_few _ _ _ _ _ _ _ _ _ c.loop-i.invariant c.loop-i-test.false c.loop-i.auto.i-end c.requires.0 (bits_to_is _ _),
  ),
)

pub shape_of-message : goal.shape_of-message
shape_of-message c = c.loop-k.invariant.same ∙ c.put_bytes.auto.out

pub returns : goal.returns
returns c = (
  row_taken _ _ _ _ _ _ _ _ _ c.loop-i.invariant _ _ _ c.loop-i-test.false c.loop-i.auto.i-end c.requires.0 (bits_to_is _ _)
      (not_within _ _ _ _ _ c.within.ensures c.if-within.false) c.requires.1 c.requires.2 _ _ _ c.front_bytes.ensures
      c.put_bytes.ensures (putting_done _ _ _ _ c.loop-i.invariant.five c.loop-k-test.false c.loop-k.invariant) _ _
      c.copy_texts.ensures,
  λ (k : ℕ) h. few_taken _ k h (omega (
    arith,
    c.copy_texts.ensures.0,
    reading_few _ _ _ _ _ _ _ _ _ c.loop-i.invariant c.loop-i-test.false c.loop-i.auto.i-end c.requires.0 (bits_to_is _ _),
  )),
)
