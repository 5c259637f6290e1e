-- Nothing of a report is cut: its fields stand in the number that `peat_compare` answers, and its counts in the six bytes.
-- Assumes nothing.
use mathlib.Core.Path.{◌≡◌, refl, ap, sym, subst, ◌∙◌}
use mathlib.Core.Bool.{Bool, true, false, cond}
use mathlib.Core.List.{List, [], ◌∷◌, ◌++◌, map}
use Prim.Native.Nat.{ℕ, suc, ◌+◌, ◌*◌, ◌/◌, ◌%◌, ◌^◌, ◌≤◌, ◌<◌}
use native.Mathlib.Omega.{arith}
use lib.Dec.{ltb, eqb}
use lib.ListN.{length, length-append}
use borrow.Author.Tests.{ltb-false}
use Rattle.envelope.specs.Envelopes.{Content, bytes_of, most_bits, refusal_number}
use Rattle.envelope.specs.Strings.{string_of, all_placed, Ending, ended, stopped, Walk, walk, Told, whole, broken, contents_of}
use Rattle.envelope.specs.declared.Envelope.{Envelope}
use Rattle.envelope.specs.declared.EnvelopeRefusal.{EnvelopeRefusal}
use Rattle.envelope.specs.declared.EnvelopeRefusal.TheVariants as refusal
use Rattle.envelope.proofs.Numbers.{AllBytes}
use Rattle.envelope.proofs.Both.{contents_back}
use Rattle.envelope.proofs.Strings.{bytes_three, every_string}
use Rattle.recordings.specs.Jobs.{insert, insert_all, rising, keep, only, repeats, only_first, only_second, repeated}
use Rattle.recordings.specs.Recordings.{most_bytes, contents, jobs, stop_in, searched, field_of, same, differ, difference}
use Rattle.recordings.proofs.Findings.{stop, Searched, found}
use Rattle.recordings.specs.Showing.{shown, refused_with, longer, rest_at, reported, lacks, listed, counts, showing, searched_by, compared}
use Rattle.recordings.specs.declared.Stop.{Stop}
use Rattle.recordings.specs.declared.Difference.{Difference}
use Rattle.recordings.specs.declared.Compared.{Compared}
use Rattle.card.specs.Comparing.{compared_number, counts_of}
use Rattle.card_laws.specs.Answers.{Reads, Counts}
use Rattle.std.specs.Prelude.{Err, None, Ok, Option, Some}

never : {A : Type 0} → ◌≡◌ {A = ℕ} 0 1 → A
never e = absurd (omega arith)

-- ---- what fits

record Small (c : Compared) : Type 0 where
  refusal : c.refusal < 256
  recording : c.recording < 256
  byte : c.byte < 65536
  index : c.index < 65536
  field : c.field < 256
  first : c.first < 65536
  second : c.second < 65536
  repeated : c.repeated < 65536

small_refused : (number recording byte : ℕ) → number < 256 → recording < 256 → byte < 65536 → Small (refused_with number recording byte)
small_refused number recording byte a b c = record { refusal = a; recording = b; byte = c; index = omega arith; field = omega arith; first = omega arith; second = omega arith; repeated = omega arith }

-- ---- a recording: three bytes for each envelope at the least

string_three : (cs : List Content) → 3 * length cs ≤ length (string_of cs)
unfolding string_of
string_three [] = omega arith
string_three (c ∷ cs) =
    let a = bytes_three c in
    let b = string_three cs in
    let l = length-append (bytes_of c) (string_of cs) in
    omega arith

length_placed : (at : ℕ) (cs : List Content) → length (all_placed at cs) ≡ length cs
unfolding all_placed
length_placed at [] = refl
length_placed at (c ∷ cs) = ap suc (length_placed (at + length (bytes_of c)) cs)

length_map : {A B : Type 0} (f : A → B) (l : List A) → length (map f l) ≡ length l
length_map f [] = refl
length_map f (x ∷ l) = ap suc (length_map f l)

jobs_of : (limit : ℕ) (s : List ℕ) (w : Walk) → Told limit s 0 w → 3 * length (map (λ (e : Envelope). e.job) w.envelopes) ≤ length s
jobs_of limit s w (whole cs fits e) =
    let a = string_three cs in
    let m = length_map (λ (x : Envelope). x.job) (all_placed 0 cs) in
    let p = length_placed 0 cs in
    let l : length s ≡ length (string_of cs) = ap length e in
    omega arith
jobs_of limit s w (broken cs t r fits e h q) =
    let a = string_three cs in
    let m = length_map (λ (x : Envelope). x.job) (all_placed 0 cs) in
    let p = length_placed 0 cs in
    omega arith

jobs_three : (limit : ℕ) (s : List ℕ) → AllBytes s → 3 * length (jobs limit s) ≤ length s
jobs_three limit s b = jobs_of limit s (walk limit s) (every_string limit s b)

-- where a walk stops
stops_within : (limit : ℕ) (s : List ℕ) (w : Walk) → Told limit s 0 w → (r : EnvelopeRefusal) (k : ℕ)
    → w.ending ≡ stopped r k → k < length s
stops_within limit s w (whole cs fits e) r k g = never (cc)
stops_within limit s w (broken cs t f fits e h q) r k g = let z : 0 + length (string_of cs) ≡ k = cc in omega arith

-- the bytes of what a recording says that is read to its end
bytes_of_is : (limit : ℕ) (s : List ℕ) (w : Walk) → Told limit s 0 w
    → ((r : EnvelopeRefusal) (k : ℕ) → w.ending ≡ stopped r k → ⊥)
    → length (string_of (contents_of s w.envelopes)) ≡ length s
bytes_of_is limit s w (whole cs fits e) n = ap (λ (c : List Content). length (string_of c))
    (contents_back limit cs fits s 0 e) ∙ sym (ap length e)
bytes_of_is limit s w (broken cs t r fits e h q) n = absurd (n r (0 + length (string_of cs)) refl)

-- ---- the search

record Stands (s : Stop) : Type 0 where
  one : s.recording < 256
  there : s.byte < 65536

search_stop : (limit : ℕ) (a b : List ℕ) → AllBytes a → AllBytes b → length a ≤ most_bytes → length b ≤ most_bytes
    → (s : Stop) → searched limit a b ≡ Err s → Stands s
unfolding searched
search_stop limit a b p q g h s e = by (walk limit a).ending refl e
  where
    on : (y : Ending) → (walk limit b).ending ≡ y → stop_in 2 y (Ok tt) ≡ Err s → Stands s
    on (ended n) f k = never (cc)
    on (stopped x n) f k =
        let w = stops_within limit b (walk limit b) (every_string limit b q) x n f in
        let z : stop x 2 n ≡ s = cc in
        subst Stands z (record { one = omega arith; there = omega arith })

    by : (x : Ending) → (walk limit a).ending ≡ x
        → stop_in 1 x (stop_in 2 (walk limit b).ending (Ok tt)) ≡ Err s → Stands s
    by (ended n) f k = on (walk limit b).ending refl k
    by (stopped x n) f k =
        let w = stops_within limit a (walk limit a) (every_string limit a p) x n f in
        let z : stop x 1 n ≡ s = cc in
        subst Stands z (record { one = omega arith; there = omega arith })

first_ends : (limit : ℕ) (a b : List ℕ) → searched limit a b ≡ Ok tt → (r : EnvelopeRefusal) (k : ℕ)
    → (walk limit a).ending ≡ stopped r k → ⊥
unfolding searched
first_ends limit a b e r k g = let w : ◌≡◌ {A = Searched} (Err (stop r 1 k)) (Ok tt) = rw g at e in never (cc)

-- ---- the first difference

field_most : (x y : Content) → field_of x y ≤ 4
unfolding field_of
field_most x y = by (eqb x.kind y.kind) (eqb x.job y.job) (eqb x.bits y.bits) (same x.body y.body)
  where
    by : (p q r t : Bool) → cond p (cond q (cond r (cond t 0 4) 3) 2) 1 ≤ 4
    by true true true true = omega arith
    by true true true false = omega arith
    by true true false t = omega arith
    by true false r t = omega arith
    by false q r t = omega arith

record Before (n k : ℕ) (d : Option Difference) : Type 0 where
  pub least : (x : Difference) → d ≡ Some x → (x.before ≤ n) × (x.byte ≤ k) × (x.field ≤ 4)

differ_before : (i at : ℕ) (xs ys : List Content) → Before (i + length xs) (at + length (string_of xs)) (differ i at xs ys)
unfolding differ string_of
differ_before i at [] ys = record { least = λ (d : Difference) (e : None ≡ Some d). never (cc) }
differ_before i at (x ∷ xs) [] = record { least = λ (d : Difference) (e : None ≡ Some d). never (cc) }
differ_before i at (x ∷ xs) (y ∷ ys) = by (eqb (field_of x y) 0) (differ_before (i + 1) (at + length (bytes_of x)) xs ys)
  where
    l : length (bytes_of x ++ string_of xs) ≡ length (bytes_of x) + length (string_of xs)
    l = length-append (bytes_of x) (string_of xs)

    by : (t : Bool)
        → Before (i + 1 + length xs) (at + length (bytes_of x) + length (string_of xs)) (differ (i + 1) (at + length (bytes_of x)) xs ys)
        → Before (i + suc (length xs)) (at + length (bytes_of x ++ string_of xs))
        (cond t (differ (i + 1) (at + length (bytes_of x)) xs ys) (Some (found i at (field_of x y))))
    by true w =
        record {
          least = λ (d : Difference) (e : differ (i + 1) (at + length (bytes_of x)) xs ys ≡ Some d).
              let o = w.least d e in
              let u = o.0 in
              let v = o.1 in
              (omega (arith, u), omega (arith, v, l), o.2);
        }
    by false w =
        record {
          least = λ (d : Difference) (e : Some (found i at (field_of x y)) ≡ Some d).
              let z : found i at (field_of x y) ≡ d = cc in
              let u : i ≡ d.before = ap (λ (t : Difference). t.before) z in
              let v : at ≡ d.byte = ap (λ (t : Difference). t.byte) z in
              let n : field_of x y ≡ d.field = ap (λ (t : Difference). t.field) z in
              let m = field_most x y in
              (omega arith, omega arith, omega arith);
        }

-- ---- the counts

keep_most : (p : ℕ → Bool) (l : List ℕ) → length (keep p l) ≤ length l
unfolding keep
keep_most p [] = omega arith
keep_most p (x ∷ l) = by (p x) (keep_most p l)
  where
    by : (t : Bool) → length (keep p l) ≤ length l → length (cond t (x ∷ keep p l) (keep p l)) ≤ suc (length l)
    by true h = omega arith
    by false h = omega arith

insert_most : (x : ℕ) (l : List ℕ) → length (insert x l) ≤ suc (length l)
unfolding insert
insert_most x [] = omega arith
insert_most x (y ∷ l) = by (ltb x y) (eqb x y) (insert_most x l)
  where
    by : (p q : Bool) → length (insert x l) ≤ suc (length l)
        → length (cond p (x ∷ y ∷ l) (cond q (y ∷ l) (y ∷ insert x l))) ≤ suc (suc (length l))
    by true q h = omega arith
    by false true h = omega arith
    by false false h = omega arith

all_most : (xs l : List ℕ) → length (insert_all xs l) ≤ length xs + length l
unfolding insert_all
all_most [] l = omega arith
all_most (x ∷ xs) l = let a = all_most xs (insert x l) in let b = insert_most x l in omega arith

rising_most : (a b : List ℕ) → length (rising a b) ≤ length a + length b
unfolding rising
rising_most a b = let p = all_most b (insert_all a []) in let q = all_most a [] in omega arith

-- ---- the report

module _ (limit : ℕ) (a b : List ℕ) (p : AllBytes a) (q : AllBytes b) (g : length a ≤ most_bytes) (h : length b ≤ most_bytes) where
  listed_most : (t : ℕ → Bool) → length (keep t (rising (jobs limit a) (jobs limit b))) < 65536
  listed_most t =
      let i = keep_most t (rising (jobs limit a) (jobs limit b)) in
      let j = rising_most (jobs limit a) (jobs limit b) in
      let k = jobs_three limit a p in
      let l = jobs_three limit b q in
      omega arith

  restful : (m n : ℕ) → m ≤ most_bytes → n ≤ most_bytes → (longer m n < 256) × (rest_at m n < 65536)
  unfolding longer rest_at
  restful m n u v = by (ltb m n) (ltb n m)
    where
      by : (s t : Bool) → (cond s 2 (cond t 1 0) < 256) × (cond s m (cond t n 0) < 65536)
      by true t = (omega arith, omega arith)
      by false true = (omega arith, omega arith)
      by false false = (omega arith, omega arith)

  small_report : (d : Option Difference) → Before 10923 32768 d → Small (reported (length a) (length b) d (counts (jobs limit a) (jobs limit b)))
  unfolding reported only_first only_second repeated
  small_report None w =
      let r = restful (length a) (length b) g h in
      record {
        refusal = omega arith;
        recording = r.0;
        byte = r.1;
        index = omega arith;
        field = omega arith;
        first = listed_most (λ (x : ℕ). only (jobs limit a) (jobs limit b) x);
        second = listed_most (λ (x : ℕ). only (jobs limit b) (jobs limit a) x);
        repeated = listed_most (λ (x : ℕ). repeats (jobs limit a) (jobs limit b) x);
      }
  small_report (Some d) w =
      let o = w.least d refl in
      let u = o.0 in
      let v = o.1 in
      let z = o.2 in
      record {
        refusal = omega arith;
        recording = omega arith;
        byte = omega (arith, v);
        index = omega (arith, u);
        field = omega (arith, z);
        first = listed_most (λ (x : ℕ). only (jobs limit a) (jobs limit b) x);
        second = listed_most (λ (x : ℕ). only (jobs limit b) (jobs limit a) x);
        repeated = listed_most (λ (x : ℕ). repeats (jobs limit a) (jobs limit b) x);
      }

  before : searched limit a b ≡ Ok tt → Before 10923 32768 (difference limit a b)
  unfolding difference
  before e =
      let l : length (string_of (contents limit a)) ≡ length a = bytes_of_is limit a (walk limit a) (every_string limit a p)
      (first_ends limit a b e) in
      let t = string_three (contents limit a) in
      let w = differ_before 0 0 (contents limit a) (contents limit b) in
      record {
        least = λ (d : Difference) (k : differ 0 0 (contents limit a) (contents limit b) ≡ Some d).
            let o = w.least d k in
            let u = o.0 in
            let v = o.1 in
            (omega (arith, u, t, l), omega (arith, v, l), o.2);
      }

  small_showing : (x y z : List ℕ) → searched limit a b ≡ Ok tt
      → Small (showing (length a) (length b) (difference limit a b) (jobs limit a) (jobs limit b) x y z).answer
  unfolding showing
  small_showing x y z e = by (lacks (only_first (jobs limit a) (jobs limit b)) x)
      (lacks (only_second (jobs limit a) (jobs limit b)) y) (lacks (repeated (jobs limit a) (jobs limit b)) z)
      (listed (only_first (jobs limit a) (jobs limit b)) x) (listed (only_second (jobs limit a) (jobs limit b)) y)
      (listed (repeated (jobs limit a) (jobs limit b)) z)
    where
      none : Small (refused_with 1 0 0)
      none = small_refused 1 0 0 (omega arith) (omega arith) (omega arith)

      by : (s t u : Bool) → (x₁ y₁ z₁ : List ℕ)
          → Small (cond s (shown (refused_with 1 0 0) x y z) (cond t (shown (refused_with 1 0 0) x y z) (cond u (shown (refused_with 1 0 0) x y z) (shown (reported (length a) (length b) (difference limit a b) (counts (jobs limit a) (jobs limit b))) x₁ y₁ z₁)))).answer
      by true t u x₁ y₁ z₁ = none
      by false true u x₁ y₁ z₁ = none
      by false false true x₁ y₁ z₁ = none
      by false false false x₁ y₁ z₁ = small_report (difference limit a b) (before e)

  number_most : (r : EnvelopeRefusal) → refusal_number r < 256
  number_most refusal.Cut = omega arith
  number_most refusal.Groups = omega arith
  number_most refusal.Kind = omega arith
  number_most refusal.Size = omega arith

  small_searched : (x y z : List ℕ) → Small (searched_by limit a b x y z (searched limit a b)).answer
  unfolding searched_by
  small_searched x y z = by (searched limit a b) refl
    where
      by : (t : Searched) → searched limit a b ≡ t → Small (searched_by limit a b x y z t).answer
      by (Ok u) e = small_showing x y z e
      by (Err s) e =
          let w = search_stop limit a b p q g h s e in
          small_refused (refusal_number s.refusal) s.recording s.byte (number_most s.refusal) w.one w.there

small_compared : (limit : ℕ) (a b x y z : List ℕ) → AllBytes a → AllBytes b → Small (compared limit a b x y z).answer
unfolding compared
small_compared limit a b x y z p q = by (ltb most_bytes (length a)) refl (ltb most_bytes (length b)) refl
  where
    none : Small (refused_with 2 0 0)
    none = small_refused 2 0 0 (omega arith) (omega arith) (omega arith)

    by : (s : Bool) → ltb most_bytes (length a) ≡ s → (t : Bool) → ltb most_bytes (length b) ≡ t
        → Small (cond s (shown (refused_with 2 0 0) x y z) (cond t (shown (refused_with 2 0 0) x y z) (searched_by limit a b x y z (searched limit a b)))).answer
    by true e t f = none
    by false e true f = none
    by false e false f = small_searched limit a b p q (ltb-false most_bytes (length a) e) (ltb-false most_bytes (length b) f) x y z

-- ---- the number, and the six bytes

first_off : (x y : ℕ) → x < 256 → (x + 256 * y) / 256 ≡ y
first_off x y h = omega arith

second_off : (x y : ℕ) → x < 65536 → (x + 65536 * y) / 65536 ≡ y
second_off x y h = omega arith

first_low : (x y : ℕ) → x < 256 → (x + 256 * y) % 256 ≡ x
first_low x y h = omega arith

second_low : (x y : ℕ) → x < 65536 → (x + 65536 * y) % 65536 ≡ x
second_low x y h = omega arith

by_16 : (n : ℕ) → n / 2 ^ 16 ≡ n / 256 / 256
by_16 n = omega arith

by_32 : (n : ℕ) → n / 2 ^ 32 ≡ n / 2 ^ 16 / 65536
by_32 n = omega arith

by_48 : (n : ℕ) → n / 2 ^ 48 ≡ n / 2 ^ 32 / 65536
by_48 n = omega arith

module _ (c : Compared) (s : Small c) where
  behind_index : ℕ
  behind_index = c.index + 65536 * c.field

  behind_byte : ℕ
  behind_byte = c.byte + 65536 * behind_index

  behind_recording : ℕ
  behind_recording = c.recording + 256 * behind_byte

  is : compared_number c ≡ c.refusal + 256 * behind_recording
  unfolding behind_index behind_byte behind_recording
  is = rw (
    byte_small c.refusal s.refusal,
    byte_small c.recording s.recording,
    two_small c.byte
        s.byte,
    two_small c.index s.index,
    byte_small c.field s.field,
  )
    where
      byte_small : (x : ℕ) → x < 256 → x % 256 ≡ x
      byte_small x h = omega arith

      two_small : (x : ℕ) → x < 65536 → x % 65536 ≡ x
      two_small x h = omega arith

  after_refusal : compared_number c / 256 ≡ behind_recording
  after_refusal = ap (λ (n : ℕ). n / 256) is ∙ first_off c.refusal behind_recording s.refusal

  after_recording : compared_number c / 2 ^ 16 ≡ behind_byte
  unfolding behind_recording
  after_recording = by_16 (compared_number c) ∙ ap (λ (n : ℕ). n / 256) after_refusal ∙ first_off c.recording behind_byte s.recording

  after_byte : compared_number c / 2 ^ 32 ≡ behind_index
  unfolding behind_byte
  after_byte = by_32 (compared_number c) ∙ ap (λ (n : ℕ). n / 65536) after_recording ∙ second_off c.byte behind_index s.byte

  number_reads : Reads (compared_number c) c
  unfolding behind_index behind_byte behind_recording
  number_reads =
      record {
        refusal = ap (λ (n : ℕ). n % 256) is ∙ first_low c.refusal behind_recording s.refusal;
        recording = ap (λ (n : ℕ). n % 256) after_refusal ∙ first_low c.recording behind_byte s.recording;
        byte = ap (λ (n : ℕ). n % 65536) after_recording ∙ second_low c.byte behind_index s.byte;
        index = ap (λ (n : ℕ). n % 65536) after_byte ∙ second_low c.index c.field s.index;
        field = by_48 (compared_number c) ∙ ap (λ (n : ℕ). n / 65536) after_byte ∙ second_off c.index c.field s.index;
      }

two_back : (n : ℕ) → n < 65536 → 256 * (n / 256 % 256) + n % 256 ≡ n
two_back n h = omega arith

pub answer_reads : (a b x y z : List ℕ) → AllBytes a → AllBytes b
    → Reads (compared_number (compared most_bits a b x y z).answer) (compared most_bits a b x y z).answer
answer_reads a b x y z p q = number_reads (compared most_bits a b x y z).answer (small_compared most_bits a b x y z p q)

pub counts_read : (a b x y z : List ℕ) → AllBytes a → AllBytes b
    → Counts (counts_of (compared most_bits a b x y z).answer) (compared most_bits a b x y z).answer
counts_read a b x y z p q =
    let s = small_compared most_bits a b x y z p q in
    record {
      first = two_back (compared most_bits a b x y z).answer.first s.first;
      second = two_back (compared most_bits a b x y z).answer.second s.second;
      repeated = two_back (compared most_bits a b x y z).answer.repeated s.repeated;
    }
