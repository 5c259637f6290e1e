-- The ways out of `peat_data_part`, as the code has them; and that a part that was read is never too long for its answer.
-- Assumes nothing.
use mathlib.Core.Path.{◌≡◌, refl, ap, sym, ◌∙◌}
use mathlib.Core.Bool.{Bool, true, false, cond, ◌&&◌}
use mathlib.Core.List.{List}
use Prim.Native.Nat.{ℕ, ◌+◌, ◌*◌, ◌≤◌, ◌<◌}
use native.Mathlib.Omega.{arith}
use borrow.Author.Tests.{lt-ltb, le-ltb, leb-true, eq-eqb, ne_eqb}
use lib.Dec.{leb, ltb, eqb}
use lib.ListN.{length}
use Rattle.words.proofs.Laws.{both_left, both_right}
use Rattle.bits.specs.Bits.{run}
use Rattle.bits.proofs.Bytes.{bits_to_is}
use Rattle.fields.specs.Encodings.{within_fits, whole_fits}
use Rattle.fields.specs.Refusals.{packed}
use Rattle.fields.specs.declared.Refusal.{Refusal}
use Rattle.apdu.specs.Sizes.{buffer_least, octet, bit, identifier_least, identifier_most, message_most, check_most, all_bits}
use Rattle.apdu.specs.Pdus.{lent}
use Rattle.apdu.specs.Reading.{whole_data}
use Rattle.apdu.specs.Writing.{done, write_out, run_fits, items_fit, part_fits, data_fits}
use Rattle.pdus.specs.declared.Span.{Span}
use Rattle.apdu.specs.declared.Data.{Data}
use Rattle.apdu.proofs.Bounds.{data_fits_is}
use Rattle.apdu.proofs.Theorems.{whole_data_is}
use Rattle.layout.specs.Calls.{sent}
use Rattle.card.specs.Parts.{chosen, unit_of, count_of, part_answer, put_out, put_chosen, part_call}
use Rattle.std.specs.Prelude.{Err, None, Ok, Option, Result, Some}
use Rattle.fields.specs.Fields.{Reading}
use Rattle.words.specs.declared.Unwritten.{Unwritten}

pub put_absent : (out s : List ℕ) (unit : ℕ) (p : Option Span) → p ≡ None → sent 0 out ≡ put_out out s unit p
unfolding put_out
put_absent out s unit p e = rw e

pub put_given : (out z s : List ℕ) (unit n : ℕ) (p : Option Span) (x : Span) (w : Result ℕ Unwritten) → p ≡ Some x → n ≡ part_answer w
    → done w z ≡ write_out (run_fits s x.at (unit * x.count)) out (run s x.at (unit * x.count))
    → sent n z ≡ put_out out s unit p
unfolding put_out
put_given out z s unit n p x w e q h = rw (e, q, ← h)

pub no_room : (out s : List ℕ) (which : ℕ) → length out < buffer_least → sent 1 out ≡ part_call out which s
unfolding part_call
no_room out s which h = rw (lt-ltb (length out) buffer_least h)

pub no_part : (out s : List ℕ) (which : ℕ) → buffer_least ≤ length out → 2 < which → sent 2 out ≡ part_call out which s
unfolding part_call
no_part out s which h g = rw (le-ltb (length out) buffer_least h, lt-ltb 2 which g)

pub not_data : (out s : List ℕ) (which n : ℕ) (t : Reading Data) (r : Refusal) → buffer_least ≤ length out → which ≤ 2
    → t ≡ whole_data (lent s) → t ≡ Err r → n ≡ packed r → sent n out ≡ part_call out which s
unfolding part_call put_chosen
not_data out s which n t r h g p q e = rw (le-ltb (length out) buffer_least h, le-ltb 2 which g, ← p, q, e)

pub part_put : (out z s : List ℕ) (which n unit next : ℕ) (t : Reading Data) (d : Data) (p : Option Span) → buffer_least ≤ length out
    → which ≤ 2 → t ≡ whole_data (lent s) → t ≡ Ok (d, next) → unit ≡ unit_of which → p ≡ chosen which d
    → sent n z ≡ put_out out s unit p → sent n z ≡ part_call out which s
unfolding part_call put_chosen
part_put out z s which n unit next t d p h g e q u c k = k ∙ rw (le-ltb (length out) buffer_least h, le-ltb 2 which g, ← e, q, u, c)

-- ---- sizes

pub given_small : (unit : ℕ) (p : Option Span) (x : Span) → p ≡ Some x → unit * count_of p < 65536 → unit * x.count < 65536
given_small unit p x e h = rw e at h

items_few : (l : List ℕ) (unit least most : ℕ) (x : Span) → items_fit l unit least most x ≡ true → x.count ≤ most
unfolding items_fit
items_few l unit least most x h =
    leb-true x.count most (both_right (leb least x.count) (leb x.count most)
    (both_left (leb least x.count && leb x.count most) (ltb x.count 16384) (both_left _ _ h)))

part_few : (l : List ℕ) (unit least most : ℕ) (p : Option Span) → part_fits l unit least most p ≡ true → count_of p ≤ most
unfolding part_fits
part_few l unit least most None h = omega arith
part_few l unit least most (Some x) h = items_few l unit least most x h

by : (d : Data) → count_of d.identifier ≤ identifier_most → count_of d.message ≤ message_most
    → d.check.count ≤ check_most → (a b : Bool)
    → cond a octet bit * count_of (cond a d.identifier (cond b d.message (Some d.check))) < 65536
by d i m k true b = omega (arith, i)
by d i m k false true = omega (arith, m)
by d i m k false false = omega (arith, k)

few : (l : List ℕ) (which : ℕ) (d : Data) → data_fits l l l d ≡ true → unit_of which * count_of (chosen which d) < 65536
unfolding chosen unit_of
few l which d h =
    let s = data_fits_is l l l d h in
    let i : count_of d.identifier ≤ identifier_most = part_few l octet identifier_least identifier_most d.identifier s.identifier in
    let m : count_of d.message ≤ message_most = part_few l bit 0 message_most d.message s.message in
    let k : d.check.count ≤ check_most = items_few l bit 0 check_most d.check s.check in
    by d i m k (eqb which 0) (eqb which 1)

pub part_small : (s : List ℕ) (which unit next : ℕ) (t : Reading Data) (d : Data) (p : Option Span) → t ≡ whole_data (lent s)
    → t ≡ Ok (d, next) → unit ≡ unit_of which → p ≡ chosen which d → unit * count_of p < 65536
part_small s which unit next t d p e q u c = rw (u, c)
    (few (lent s) which d (whole_data_is (lent s) d next (bits_to_is s all_bits) (sym e ∙ q)).placed_fits)
