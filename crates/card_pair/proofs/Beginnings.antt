-- The bytes at which a run may begin hold a record of the pair. Those that peat_fresh made are such bytes, and so are those of an end that a run left IDLE.
-- Assumes nothing.
use mathlib.Core.Path.{◌≡◌, refl, ap, sym, subst, ◌∙◌}
use mathlib.Core.Bool.{Bool, true, false, not, cond, ◌&&◌}
use mathlib.Core.List.{List}
use Prim.Native.Nat.{ℕ, ◌^◌, ◌≤◌, ◌<◌}
use native.Mathlib.Omega.{arith}
use borrow.Author.Tests.{eqb-true, ltb-true, leb-true, le-ltb}
use lib.Dec.{T, leb, ltb, eqb}
use lib.ListN.{length, get_or}
use Rattle.words.proofs.Laws.{both_left, both_right}
use Rattle.bits.specs.Bits.{bits_to}
use Rattle.bits.specs.Read.{read_bits}
use Rattle.bits.proofs.Bytes.{bits_to_is}
use Rattle.bits.proofs.Reading.{number_lt}
use Rattle.editions.specs.Editions.{type_of, is_type, edition_of}
use Rattle.editions.specs.declared.Edition.{Edition}
use Rattle.editions.specs.declared.Edition.TheVariants.{Plain, Protected}
use Rattle.machine.specs.Codes.{security_values, versions}
use Rattle.machine.specs.Record.{fresh_record}
use Rattle.machine.specs.declared.record.Configuration.{Configuration}
use Rattle.control.specs.Control.{waits, awaits_response}
use Rattle.machine.specs.declared.record.Record.{Record}
use Rattle.stored.specs.Stored.{record_bytes, record_bits, job_bit, job_bits, number_bit, number_bits, side_code, version_fits, head_fits, head_of, with_numbers, load_at, store_at, is_stored}
use Rattle.step.proofs.Taken.{never, Coded}
use Rattle.card.specs.Face.{first_number, configured, fresh_for, fresh_call}
use Rattle.pair.specs.Names.{Side, Air, Ground, StartReq, Control, is, is_idle}
use Rattle.pair.proofs.Finite.{is_t}
use Rattle.pair.proofs.StepLocal.{Local, closed_is_idle}
use Rattle.card_pair.specs.Promise.{Begins, Stands}
use Rattle.card_pair.proofs.Ends.{number_in, Keeps, stored_keeps}
use Rattle.std.specs.Prelude.{None, Option, Some}
use Rattle.stored.specs.declared.Stored.{Stored}

-- ---- what is loaded is coded

abbrev is_record : Option Stored → Bool
is_record (Some z) = true
is_record None = false

abbrev record_in : Option Stored → Record → Record
record_in (Some z) q = z.machine
record_in None q = q

by_test : (t : Bool) (x : Option Stored) (sd : Side) (r : Record) (n : ℕ) → cond t x None ≡ is_stored sd r n → (t ≡ true) × (x ≡ is_stored sd r n)
by_test true x sd r n e = (refl, e)
by_test false x sd r n e = never (ap is_record e)

-- the codes of a record are of their types, and eight bytes hold its number
record Loads (r : Record) (n : ℕ) : Type 0 where
  coded : Coded r
  low : n < 2 ^ 64

-- the tests of the first bytes before those of the two security values
abbrev before : List ℕ → Bool
before b = leb 1 (get_or b 0 0) && leb (get_or b 0 0) 4 && ltb (get_or b 1 0) 6 && ltb (get_or b 2 0) 2 && ltb (get_or b 3 0) 2 && ltb (get_or b 4 0) 2

number_coded : (b : List ℕ) (x y : Option (ℕ × ℕ)) (sd : Side) (r : Record) (n : ℕ)
    → read_bits (bits_to b record_bits) job_bit job_bits ≡ x → read_bits (bits_to b record_bits) number_bit number_bits ≡ y
    → head_of b ≡ true → with_numbers b x y ≡ is_stored sd r n → Loads r n
unfolding with_numbers head_fits
number_coded b (Some (h, next)) (Some (m, last)) sd r n e g t f =
    let k = both_left
    (before b && ltb (get_or b 5 0) security_values && ltb (get_or b 6 0) security_values && ltb (get_or b 7 0) 2)
    (version_fits (get_or b 8 0)) t in
    let v = both_right
    (before b && ltb (get_or b 5 0) security_values && ltb (get_or b 6 0) security_values && ltb (get_or b 7 0) 2)
    (version_fits (get_or b 8 0)) t in
    let p = both_left (before b && ltb (get_or b 5 0) security_values && ltb (get_or b 6 0) security_values) (ltb (get_or b 7 0) 2) k in
    let q = both_left (before b && ltb (get_or b 5 0) security_values) (ltb (get_or b 6 0) security_values) p in
    record {
      coded = subst Coded (ap (λ (z : Option Stored). record_in z r) f)
          (record {
            request = ltb-true (get_or b 5 0) security_values (both_right (before b) (ltb (get_or b 5 0) security_values) q);
            policy = ltb-true (get_or b 6 0) security_values
                (both_right (before b && ltb (get_or b 5 0) security_values) (ltb (get_or b 6 0) security_values) p);
            least = leb-true 1 (get_or b 8 0) (both_left (leb 1 (get_or b 8 0)) (ltb (get_or b 8 0) versions) v);
            most = ltb-true (get_or b 8 0) versions (both_right (leb 1 (get_or b 8 0)) (ltb (get_or b 8 0) versions) v);
            highest = number_lt (bits_to b record_bits) job_bit job_bits h next (bits_to_is b record_bits) e;
          });
      low = subst (λ (k : ℕ). k < 2 ^ 64) (ap number_in f)
          (number_lt (bits_to b record_bits) number_bit number_bits m last (bits_to_is b record_bits) g);
    }
number_coded b (Some (h, next)) None sd r n e g t f = never (ap is_record f)
number_coded b None y sd r n e g t f = never (ap is_record f)

pub loaded_keeps : (b : List ℕ) (sd : Side) (r : Record) (n : ℕ) → load_at b ≡ is_stored sd r n
    → awaits_response r.control ≡ false → Keeps r.edition sd b r n
unfolding load_at
loaded_keeps b sd r n e w =
    let x = by_test (eqb (length b) record_bytes && head_of b) (with_numbers b
    (read_bits (bits_to b record_bits) job_bit job_bits) (read_bits (bits_to b record_bits) number_bit number_bits)) sd r
    n e in
    let k = number_coded b (read_bits (bits_to b record_bits) job_bit job_bits)
    (read_bits (bits_to b record_bits) number_bit number_bits) sd r n refl refl
    (both_right (eqb (length b) record_bytes) (head_of b) x.0) x.1 in
    record {
      load = e;
      edition = refl;
      size = eqb-true (length b) record_bytes (both_left (eqb (length b) record_bytes) (head_of b) x.0);
      coded = k.coded;
      low = k.low;
      dialogue = w;
    }

-- ---- a record at which a run may begin is one of the pair

module _ (p : ℕ) (ed : Edition) (sd : Side) (b : List ℕ) (h : Begins p ed sd b) where
  pub begins_keeps : Keeps ed sd b h.held h.number
  begins_keeps = subst (λ (z : Edition). Keeps z sd b h.held h.number) h.edition
      (loaded_keeps b sd h.held h.number h.load (ap awaits_response h.idle))

  pub begins_idle : T (is_idle h.held.control)
  begins_idle = subst (λ (c : Control). T (is_idle c)) (sym h.idle) tt

  pub begins_local : Local ed p h.held
  begins_local =
      record {
        edition = h.edition;
        formed = record {
          timer = h.timer ∙ sym (ap (λ (c : Control). waits c.state) h.idle);
          user = h.user ∙ sym (ap (λ (c : Control). not (is_idle c)) h.idle);
          idle = λ (i : is_idle h.held.control ≡ true). ap (λ (c : Control). c.dsc) h.idle;
        };
        policy = h.policy;
        request = λ (x : T (is h.held.control.state StartReq)). absurd
            (subst (λ (c : Control). T (is c.state StartReq)) h.idle x);
        dialogue = ap awaits_response h.idle;
      }

  pub begins_valid : p < security_values
  begins_valid = subst (λ (n : ℕ). n < security_values) h.policy begins_keeps.coded.policy

-- ---- which bytes are such

stored_load : (g : Configuration) (sd : Side) (r : List ℕ) → g.policy < security_values → 1 ≤ g.version
    → g.version < versions → length r ≡ record_bytes
    → load_at (store_at r sd (fresh_record g) first_number).bytes ≡ is_stored sd (fresh_record g) first_number
stored_load g sd r v l m h = (stored_keeps g.edition sd r (fresh_record g) first_number h (record { request = omega arith; policy = v; least = l; most = m; highest = omega arith }) (omega arith) refl refl).load

is_type_is : (ed : Edition) → is_type (type_of ed) ≡ true
is_type_is Plain = refl
is_type_is Protected = refl

own_type : (ed : Edition) → edition_of (type_of ed) ≡ ed
own_type Plain = refl
own_type Protected = refl

-- what peat_fresh made in any range of a record's size; f: whether forwarding is supported; n: the own version
pub fresh_begins : (p : ℕ) (ed : Edition) (f n : ℕ) (sd : Side) (r : List ℕ) → p < security_values → f ≤ 1 → 1 ≤ n
    → n < versions → length r ≡ record_bytes → Begins p ed sd (fresh_call r (side_code sd) p f n (type_of ed)).bytes
unfolding fresh_call fresh_for
fresh_begins p ed f n Air r v w l m h =
    record { held = fresh_record (configured p f n (type_of ed)); number = first_number; load = rw (le-ltb 1 f w, is_type_is ed) (stored_load (configured p f n (type_of ed)) Air r v l m h); edition = own_type ed; policy = refl; idle = refl; timer = refl; user = refl }
fresh_begins p ed f n Ground r v w l m h =
    record { held = fresh_record (configured p f n (type_of ed)); number = first_number; load = rw (le-ltb 1 f w, is_type_is ed) (stored_load (configured p f n (type_of ed)) Ground r v l m h); edition = own_type ed; policy = refl; idle = refl; timer = refl; user = refl }

pub fresh_highest : (p : ℕ) (ed : Edition) (f n : ℕ) (sd : Side) (r : List ℕ) (v : p < security_values) (w : f ≤ 1) (l : 1 ≤ n) (m : n < versions) (h : length r ≡ record_bytes)
    → (fresh_begins p ed f n sd r v w l m h).held.highest ≡ 0
unfolding fresh_begins
fresh_highest p ed f n Air r v w l m h = refl
fresh_highest p ed f n Ground r v w l m h = refl

pub fresh_number : (p : ℕ) (ed : Edition) (f n : ℕ) (sd : Side) (r : List ℕ) (v : p < security_values) (w : f ≤ 1) (l : 1 ≤ n) (m : n < versions) (h : length r ≡ record_bytes)
    → (fresh_begins p ed f n sd r v w l m h).number ≡ 0
unfolding fresh_begins
fresh_number p ed f n Air r v w l m h = refl
fresh_number p ed f n Ground r v w l m h = refl

pub fresh_version : (p : ℕ) (ed : Edition) (f n : ℕ) (sd : Side) (r : List ℕ) (v : p < security_values) (w : f ≤ 1) (l : 1 ≤ n) (m : n < versions) (h : length r ≡ record_bytes)
    → (fresh_begins p ed f n sd r v w l m h).held.version ≡ n
unfolding fresh_begins
fresh_version p ed f n Air r v w l m h = refl
fresh_version p ed f n Ground r v w l m h = refl

-- the bytes of an end that is IDLE after a run: the record may meet the next aircraft
pub idle_begins : (p : ℕ) (ed : Edition) (sd : Side) (b : List ℕ) (s : Stands p ed sd b) → T (is_idle s.held.control) → Begins p ed sd b
idle_begins p ed sd b s i =
    let e = sym (closed_is_idle s.held s.formed (is_t _ i)) in
    record {
      held = s.held;
      number = s.number;
      load = s.load;
      edition = s.edition;
      policy = s.policy;
      idle = e;
      timer = s.formed.timer ∙ ap (λ (c : Control). waits c.state) e;
      user = s.formed.user ∙ ap (λ (c : Control). not (is_idle c)) e;
    }
