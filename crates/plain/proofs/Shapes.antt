-- What the host gives is taken alike wherever it stands in the lent bytes: the reader is run where it stands, up to where it should end.
-- Assumes nothing.
use mathlib.Core.Path.{◌≡◌, refl, ap, sym, subst, ◌∙◌}
use mathlib.Core.Bool.{Bool, true, false, not, ◌&&◌}
use mathlib.Core.List.{List, [], ◌∷◌}
use Prim.Native.Nat.{ℕ, ◌+◌, ◌-◌, ◌*◌, ◌^◌, ◌≤◌, ◌<◌}
use native.Mathlib.Omega.{arith}
use borrow.Author.Tests.{eqb-true, eq-eqb}
use lib.Dec.{eqb}
use lib.ListN.{length, take, drop}
use Rattle.words.proofs.Laws.{both_right}
use Rattle.bits.specs.Bits.{bits_to}
use Rattle.bits.proofs.Numbers.{Bits}
use Rattle.bits.proofs.Bytes.{bits_to_is, bits_take, bits_drop, length_to, length_part, run_to}
use Rattle.fields.proofs.RoundTrip.{Stands}
use Rattle.elements.proofs.Steps.{never}
use Rattle.kinds.specs.declared.Direction.{Direction}
use Rattle.inplace.specs.InPlace.{message_span, elements_span}
use Rattle.apdu.specs.Sizes.{all_bits, bit, message_most, check_most}
use Rattle.apdu.specs.Headings.{heading_fits}
use Rattle.apdu.specs.Pdus.{lent, items_in, part_in, content_in}
use Rattle.apdu.specs.Writing.{items_fit, part_fits, data_fits, forward_fits}
use Rattle.apdu.specs.declared.Data.{Data}
use Rattle.apdu.specs.declared.Heading.{Heading}
use Rattle.apdu.specs.declared.Forward.{Forward}
use Rattle.apdu.proofs.Bounds.{items_fits, data_fits_is}
use Rattle.apdu.proofs.Writers.{given_fits_is}
use Rattle.pdus.specs.declared.Span.{Span}
use Rattle.front.proofs.Runs.{Ends, RunLaws, ends_at_is, at_end}
use Rattle.plain.specs.Plain.{direction_of, ends_at, takes_all, is_absent, is_empty, message_fits, content_fits, elements_fit, given_fits, forward_given_fits}
use Rattle.plain.proofs.Instance.{message_laws, elements_laws}
use Rattle.std.specs.Prelude.{Err, None, Ok, Option, Some, is_some}
use Rattle.fields.specs.Fields.{Reading}

-- ---- a reader, run in place

both_ways : (a b : Bool) → (a ≡ true → b ≡ true) → (b ≡ true → a ≡ true) → a ≡ b
both_ways true b f g = sym (f refl)
both_ways false true f g = g refl
both_ways false false f g = refl

module _ (rd : List ℕ → ℕ → Reading ℕ) (laws : RunLaws rd) where
  taken_there : (l : List ℕ) (at n : ℕ) → Bits l → length l ≡ at + n → ends_at (at + n) (rd l at) ≡ takes_all rd (take n (drop at l))
  taken_there l at n b h = both_ways _ _ by_itself there
    where
      long : length (take n (drop at l)) ≡ n
      long = length_part l at n (omega arith)

      by_itself : ends_at (at + n) (rd l at) ≡ true → takes_all rd (take n (drop at l)) ≡ true
      by_itself e =
          let i = ends_at_is (rd l at) (at + n) e in
          let a = laws.apart l at i.value (at + n) b i.is in
          let k : at + n - at ≡ n = omega arith in
          let s : Ends (rd (take n (drop at l)) 0) n = rw k at a.itself in
          at_end (rd (take n (drop at l)) 0) (length (take n (drop at l)))
          (subst (λ (x : ℕ). Ends (rd (take n (drop at l)) 0) x) (sym long) s)

      there : takes_all rd (take n (drop at l)) ≡ true → ends_at (at + n) (rd l at) ≡ true
      there e =
          let i = ends_at_is (rd (take n (drop at l)) 0) (length (take n (drop at l))) e in
          let s : Stands l at (take n (drop at l)) (at + n) = record { place = omega (arith, long); within = omega (arith, long); holds = rw long } in
          at_end (rd l at) (at + n) (laws.anywhere (take n (drop at l)) l at (at + n) (bits_take n (drop at l) (bits_drop at l b)) i s)

  -- in lent bytes
  pub run_taken : (s : List ℕ) (least most : ℕ) (x : Span) (f : Reading ℕ) → items_fit (lent s) bit least most x ≡ true
      → f ≡ rd (bits_to s (x.at + x.count)) x.at
      → ends_at (x.at + x.count) f ≡ takes_all rd (items_in (lent s) bit x)
  run_taken s least most x f h e =
      let i = items_fits (lent s) bit least most x h in
      let t = length_to s all_bits in
      let u = length_to s (x.at + x.count) in
      let k : bit * x.count ≡ x.count = omega arith in
      let z : length (bits_to s (x.at + x.count)) ≡ x.at + x.count = omega (arith, i.held) in
      let a : take x.count (drop x.at (bits_to s (x.at + x.count))) ≡ take x.count (drop x.at (lent s)) =
      run_to s (x.at + x.count) x.at x.count (omega arith) ∙ sym (run_to s all_bits x.at x.count (omega (arith, i.held))) in
      let b : take x.count (drop x.at (lent s)) ≡ items_in (lent s) bit x = ap (λ (n : ℕ). take n (drop x.at (lent s))) (sym k) in
      ap (ends_at (x.at + x.count)) e ∙ taken_there (bits_to s (x.at + x.count)) x.at x.count
      (bits_to_is s (x.at + x.count)) z ∙ ap (takes_all rd) (a ∙ b)

-- where it ends is a number of the machine
pub span_low : (s : List ℕ) (least most : ℕ) (x : Span) → items_fit (lent s) bit least most x ≡ true → x.at + x.count < 2 ^ 64
span_low s least most x h =
    let i = items_fits (lent s) bit least most x h in
    let t = length_to s all_bits in
    omega (arith, i.held)

pub part_low : (s : List ℕ) (p : Option Span) (x : Span) → p ≡ Some x → part_fits (lent s) bit 0 message_most p ≡ true
    → x.at + x.count < 2 ^ 64
part_low s p x e h = span_low s 0 message_most x (given_fits_is (lent s) bit message_most p x e h)

pub none_taken : (d : Direction) (s : List ℕ) (p : Option Span) → p ≡ None → true ≡ message_fits d (part_in (lent s) bit p)
unfolding part_in
none_taken d s p e = rw e refl

pub message_taken : (d : Direction) (s : List ℕ) (p : Option Span) (x : Span) (f : Reading ℕ) (b : Bool) → p ≡ Some x
    → part_fits (lent s) bit 0 message_most p ≡ true
    → f ≡ message_span d (bits_to s (x.at + x.count)) x.at → b ≡ ends_at (x.at + x.count) f → b ≡ message_fits d (part_in (lent s) bit p)
unfolding part_in
message_taken d s p x f b e h g k =
    k ∙ run_taken (message_span d) (message_laws d) s 0 message_most x f (given_fits_is (lent s) bit message_most p x e h) g ∙
    ap (λ (q : Option Span). message_fits d (part_in (lent s) bit q)) (sym e)

pub elements_taken : (h : Heading) (s : List ℕ) (x : Span) (d : Direction) (f : Reading ℕ) (b : Bool)
    → items_fit (lent s) bit 0 message_most x ≡ true → d ≡ direction_of h.direction
    → f ≡ elements_span d (bits_to s (x.at + x.count)) x.at → b ≡ ends_at (x.at + x.count) f → b ≡ elements_fit h
    (items_in (lent s) bit x)
unfolding elements_fit
elements_taken h s x d f b i e g k =
    k ∙ run_taken (elements_span d) (elements_laws d) s 0 message_most x f i g ∙ ap
    (λ (q : Direction). takes_all (elements_span q) (items_in (lent s) bit x)) e

-- ---- the parts of what the host gives

pub none_absent : (l : List ℕ) (unit : ℕ) (p : Option Span) → is_absent (part_in l unit p) ≡ not (is_some p)
unfolding part_in
none_absent l unit None = refl
none_absent l unit (Some x) = refl

items_none : (l : List ℕ) (x : Span) → x.count ≡ 0 → is_empty (items_in l bit x) ≡ true
items_none l x e = rw e

items_some : (l : List ℕ) (least most : ℕ) (x : Span) → items_fit l bit least most x ≡ true → 0 < x.count
    → is_empty (items_in l bit x) ≡ false
items_some l least most x h g =
    let i = items_fits l bit least most x h in
    let n = length_part l x.at (bit * x.count) i.held in
    some (items_in l bit x) (omega arith)
  where
    some : (v : List ℕ) → 0 < length v → is_empty v ≡ false
    some [] p = absurd (omega arith)
    some (y ∷ v) p = refl

module _ (d : Direction) (li lm lc : List ℕ) (x : Data) where
  pub not_placed : data_fits li lm lc x ≡ false → false ≡ given_fits d li lm lc x
  unfolding given_fits
  not_placed e = rw e

  pub message_placed : data_fits li lm lc x ≡ true → part_fits lm bit 0 message_most x.message ≡ true
  message_placed e = (data_fits_is li lm lc x e).message

  module _ (e : data_fits li lm lc x ≡ true) where
    pub has_identifier : is_some x.identifier ≡ true → false ≡ given_fits d li lm lc x
    unfolding given_fits content_fits content_in
    has_identifier f = rw (e, none_absent li 8 x.identifier, f)

    pub has_check : is_some x.identifier ≡ false → 0 < x.check.count → false ≡ given_fits d li lm lc x
    unfolding given_fits content_fits content_in
    has_check f g =
        let k = (data_fits_is li lm lc x e).check in
        rw (e, none_absent li 8 x.identifier, f, items_some lc 0 check_most x.check k g)

    pub by_message : (m : Bool) → is_some x.identifier ≡ false → x.check.count ≤ 0
        → m ≡ message_fits d (part_in lm bit x.message) → m ≡ given_fits d li lm lc x
    unfolding given_fits content_fits content_in
    by_message m f g h = rw (e, none_absent li 8 x.identifier, f, items_none lc x.check (omega arith)) h

module _ (lm : List ℕ) (f : Forward) where
  pub forward_not_placed : forward_fits lm f ≡ false → false ≡ forward_given_fits lm f
  unfolding forward_given_fits
  forward_not_placed e = rw e

  pub forward_items : forward_fits lm f ≡ true → items_fit lm bit 0 message_most f.message ≡ true
  unfolding forward_fits
  forward_items e = both_right (heading_fits f.heading) (items_fit lm bit 0 message_most f.message) e

  pub by_elements : (m : Bool) → forward_fits lm f ≡ true → m ≡ elements_fit f.heading (items_in lm bit f.message)
      → m ≡ forward_given_fits lm f
  unfolding forward_given_fits
  by_elements m e h = rw e h
