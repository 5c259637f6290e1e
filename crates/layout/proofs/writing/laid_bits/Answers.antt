use Rattle.std.proofs.lemmas.Bool.{not_from_false, not_from_true}
use mathlib.Core.Path.{refl, ◌∙◌}
use native.Mathlib.Omega.{arith}
use lib.ListN.{drop}
use Rattle.inner.proofs.MessageWritten.{no_count, count_few, no_row, sum_small, no_rest, too_long, measured_message}
use Rattle.layout.specs.Layout.{message_of}
use Rattle.layout.proofs.InOrder.{length_elements}
use Rattle.layout.proofs.writing.laid_bits.Goals as goal

pub overflow_cast-n : goal.overflow_cast-n
overflow_cast-n c = omega (arith, c.shared_slice_known-1.given 11)

pub returns-then-not-is_count : goal.returns-then-not-is_count
unfolding message_of
returns-then-not-is_count c =
    no_count _ (message_of c.args.b.now) _ _ c.requires.3 _ refl _ c.is_count.ensures (not_from_false _ c.if-not-is_count.true)

pub row_bits-requires : goal.row_bits-requires
unfolding message_of
row_bits-requires c = (
  count_few c.args.direction (message_of c.args.b.now) c.args.text.now _ c.requires.3 _ refl _
      c.is_count.ensures (not_from_true _ c.if-not-is_count.false),
  omega arith,
  c.requires.2,
)

pub returns-in_err-k : goal.returns-in_err-k
unfolding message_of
returns-in_err-k c =
    c.from_residual.ensures ∙ no_row _ (message_of c.args.b.now) _ _ c.requires.3 _ refl _ c.is_count.ensures (not_from_true _ c.if-not-is_count.false)
    (length_elements 5 (drop 12 c.args.b.now)) _ c.row_bits.ensures
    c.in_err-k.was

pub rest_empty-requires : goal.rest_empty-requires
unfolding message_of
rest_empty-requires c = (
  count_few c.args.direction (message_of c.args.b.now) c.args.text.now _ c.requires.3 _ refl _
      c.is_count.ensures (not_from_true _ c.if-not-is_count.false),
  c.requires.0,
  c.requires.1,
)

pub returns-then-not-rest_empty : goal.returns-then-not-rest_empty
unfolding message_of
returns-then-not-rest_empty c =
    no_rest _ (message_of c.args.b.now) _ _ c.requires.3 _ refl _ c.is_count.ensures (not_from_true _ c.if-not-is_count.false)
    (length_elements 5 (drop 12 c.args.b.now)) _ c.row_bits.ensures _
    c.in_ok-k.was _ c.rest_empty.ensures (not_from_false _ c.if-not-rest_empty.true)

pub overflow_add-all : goal.overflow_add-all
unfolding message_of
overflow_add-all c =
    omega (
      arith,
      (sum_small c.args.direction (message_of c.args.b.now) c.args.text.now _
          c.requires.3 _ refl _ c.is_count.ensures (not_from_true _ c.if-not-is_count.false)
          (length_elements 5 (drop 12 c.args.b.now)) _ c.row_bits.ensures _
          c.in_ok-k.was).0,
    )

pub overflow_add-all-2 : goal.overflow_add-all-2
unfolding message_of
overflow_add-all-2 c =
    omega (
      arith,
      (sum_small c.args.direction (message_of c.args.b.now) c.args.text.now _
          c.requires.3 _ refl _ c.is_count.ensures (not_from_true _ c.if-not-is_count.false)
          (length_elements 5 (drop 12 c.args.b.now)) _ c.row_bits.ensures _
          c.in_ok-k.was).0,
      (sum_small c.args.direction (message_of c.args.b.now)
          c.args.text.now _ c.requires.3 _ refl _ c.is_count.ensures (not_from_true _ c.if-not-is_count.false)
          (length_elements 5 (drop 12 c.args.b.now)) _ c.row_bits.ensures _
          c.in_ok-k.was).1,
    )

pub returns-then-all-gt-BITS : goal.returns-then-all-gt-BITS
unfolding message_of
returns-then-all-gt-BITS c =
    too_long _ (message_of c.args.b.now) _ _ c.requires.3 _ refl _ c.is_count.ensures
    (not_from_true _ c.if-not-is_count.false) (length_elements 5 (drop 12 c.args.b.now)) _ c.row_bits.ensures _
    c.in_ok-k.was _ c.rest_empty.ensures (not_from_true _ c.if-not-rest_empty.false) c.if-all-gt-BITS.true

pub returns : goal.returns
unfolding message_of
returns c =
    measured_message _ (message_of c.args.b.now) _ _ c.requires.3 _ refl _ c.is_count.ensures
    (not_from_true _ c.if-not-is_count.false) (length_elements 5 (drop 12 c.args.b.now)) _ c.row_bits.ensures _
    c.in_ok-k.was _ c.rest_empty.ensures (not_from_true _ c.if-not-rest_empty.false) c.if-all-gt-BITS.false
