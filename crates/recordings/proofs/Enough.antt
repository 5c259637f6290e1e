-- Lists that are long enough whatever the recordings say: an envelope has three bytes with a job of one group, and four or more with any other.
-- Assumes nothing.
use mathlib.Core.Path.{◌≡◌, refl, ap, sym, ◌∙◌, subst}
use mathlib.Core.Bool.{Bool, true, false, cond, ◌||◌}
use mathlib.Core.List.{List, [], ◌∷◌, map}
use Prim.Native.Nat.{ℕ, zero, suc, ◌+◌, ◌-◌, ◌*◌, ◌/◌, ◌%◌, ◌≤◌, ◌<◌}
use native.Mathlib.Omega.{arith}
use native.Mathlib.Decide.{dec_lt}
use lib.Dec.{leb, ltb, eqb}
use lib.ListN.{length}
use borrow.Author.Tests.{lt-ltb, le-ltb, ltb-true, leb-true, leb-false}
use Rattle.envelope.specs.Envelopes.{envelope_at, content_of, bytes_of}
use Rattle.envelope.specs.Numbers.{groups, number}
use Rattle.envelope.specs.Strings.{Walk, on_read, walk_from_of, walk}
use Rattle.envelope.specs.declared.Envelope.{Envelope}
use Rattle.envelope.proofs.Numbers.{AllBytes, groups_more}
use Rattle.envelope.proofs.Puts.{groups_pos}
use Rattle.envelope.proofs.RoundTrip.{read_written, length_header, length_whole}
use Rattle.envelope.proofs.Strings.{walk_none, walk_end, walk_on, Onward, goes_on}
use Rattle.recordings.specs.Jobs.{times, rising, keep, only, repeats, only_first, only_second, repeated}
use Rattle.recordings.specs.Blocks.{Above, more, Rising, next, enough}
use Rattle.recordings.specs.Recordings.{jobs}
use Rattle.recordings.specs.Showing.{counts, lacks}
use Rattle.recordings.specs.declared.Counts.{Counts}
use Rattle.recordings.proofs.Members.{Alike, alike, apart, alike?, times_nil, times_same, times_other, keep_nil, keep_in, keep_out, rising_keep, above_keep, and_left}
use Rattle.recordings.proofs.Following.{rising_rises}
use Rattle.recordings.proofs.Counting.{jobs_above, both_above}
use Rattle.std.specs.Prelude.{Err, Ok, Result}
use Rattle.envelope.specs.declared.EnvelopeRefusal.{EnvelopeRefusal}

-- ---- the least bytes of envelopes of some jobs

data Size (x : ℕ) : Type 0 where
  few : x < 128 → Size x
  many : 128 ≤ x → Size x

size : (x : ℕ) → Size x
size x = elim (dec_lt x 128) [ yes h ↦ few h | no h ↦ many (omega arith) ]

unfoldable bytes : List ℕ → ℕ
bytes [] = 0
bytes (x ∷ xs) = cond (ltb x 128) 3 4 + bytes xs

bytes_nil : bytes [] ≡ 0
unfolding bytes
bytes_nil = refl

bytes_few : (x : ℕ) (xs : List ℕ) → x < 128 → bytes (x ∷ xs) ≡ 3 + bytes xs
unfolding bytes
bytes_few x xs h = rw (lt-ltb x 128 h)

bytes_many : (x : ℕ) (xs : List ℕ) → 128 ≤ x → bytes (x ∷ xs) ≡ 4 + bytes xs
unfolding bytes
bytes_many x xs h = rw (le-ltb x 128 h)

-- rising jobs above k: at most 127 - k of them have one group
places_most : (k : ℕ) (l : List ℕ) → Rising l → Above k l → 4 * length l ≤ bytes l + (127 - k)
places_most k [] r a = omega arith
places_most k (x ∷ xs) (next a r) (more h b) = by (size x) (places_most x xs r a)
  where
    by : Size x → 4 * length xs ≤ bytes xs + (127 - x) → 4 * length (x ∷ xs) ≤ bytes (x ∷ xs) + (127 - k)
    by (few s) i = rw (bytes_few x xs s) (omega (arith, h, i, s))
    by (many s) i = rw (bytes_many x xs s) (omega (arith, h, i, s))

-- ---- what the envelopes of some jobs take of a recording

unfoldable taken : List ℕ → List ℕ → ℕ
taken [] c = 0
taken (x ∷ xs) c = cond (ltb x 128) (3 * times x c) (4 * times x c) + taken xs c

taken_nil : (c : List ℕ) → taken [] c ≡ 0
unfolding taken
taken_nil c = refl

taken_few : (x : ℕ) (xs c : List ℕ) → x < 128 → taken (x ∷ xs) c ≡ 3 * times x c + taken xs c
unfolding taken
taken_few x xs c h = rw (lt-ltb x 128 h)

taken_many : (x : ℕ) (xs c : List ℕ) → 128 ≤ x → taken (x ∷ xs) c ≡ 4 * times x c + taken xs c
unfolding taken
taken_many x xs c h = rw (le-ltb x 128 h)

of_none : (l : List ℕ) → taken l [] ≡ 0
of_none [] = taken_nil []
of_none (x ∷ xs) = by (size x) (of_none xs)
  where
    by : Size x → taken xs [] ≡ 0 → taken (x ∷ xs) [] ≡ 0
    by (few s) i = omega (arith, taken_few x xs [] s, times_nil x, i)
    by (many s) i = omega (arith, taken_many x xs [] s, times_nil x, i)

-- a job that is not among them
of_other : (y : ℕ) (l c : List ℕ) → Above y l → taken l (y ∷ c) ≡ taken l c
of_other y [] c a = taken_nil (y ∷ c) ∙ sym (taken_nil c)
of_other y (x ∷ xs) c (more h a) = by (size x) (of_other y xs c a) (times_other x y c (λ (e : x ≡ y). absurd (omega (arith, h, e))))
  where
    by : Size x → taken xs (y ∷ c) ≡ taken xs c → times x (y ∷ c) ≡ 0 + times x c → taken (x ∷ xs) (y ∷ c) ≡ taken (x ∷ xs) c
    by (few s) i t = omega (arith, taken_few x xs (y ∷ c) s, taken_few x xs c s, i, t)
    by (many s) i t = omega (arith, taken_many x xs (y ∷ c) s, taken_many x xs c s, i, t)

bytes_grow : (y : ℕ) (c : List ℕ) → bytes c ≤ bytes (y ∷ c)
bytes_grow y c = by (size y)
  where
    by : Size y → bytes c ≤ bytes (y ∷ c)
    by (few s) = omega (arith, bytes_few y c s)
    by (many s) = omega (arith, bytes_many y c s)

-- one envelope more takes its bytes once at most
of_one : (y : ℕ) (l c : List ℕ) → Rising l → taken l (y ∷ c) + bytes c ≤ taken l c + bytes (y ∷ c)
of_one y [] c r = omega (arith, taken_nil (y ∷ c), taken_nil c, bytes_grow y c)
of_one y (x ∷ xs) c (next a r) = by (alike? x y) (size x) (of_one y xs c r)
  where
    by : Alike x y → Size x → taken xs (y ∷ c) + bytes c ≤ taken xs c + bytes (y ∷ c)
        → taken (x ∷ xs) (y ∷ c) + bytes c ≤ taken (x ∷ xs) c + bytes (y ∷ c)
    by (alike e) (few s) i =
        let o = of_other y xs c (subst (λ (z : ℕ). Above z xs) e a) in
        omega (arith, taken_few x xs (y ∷ c) s, taken_few x xs c s, times_same x y c e, o, bytes_few y c (omega (arith, e, s)))
    by (alike e) (many s) i =
        let o = of_other y xs c (subst (λ (z : ℕ). Above z xs) e a) in
        omega (arith, taken_many x xs (y ∷ c) s, taken_many x xs c s, times_same x y c e, o, bytes_many y c (omega (arith, e, s)))
    by (apart n) (few s) i = omega (arith, taken_few x xs (y ∷ c) s, taken_few x xs c s, times_other x y c n, i)
    by (apart n) (many s) i = omega (arith, taken_many x xs (y ∷ c) s, taken_many x xs c s, times_other x y c n, i)

taken_most : (l c : List ℕ) → Rising l → taken l c ≤ bytes c
taken_most l [] r = omega (arith, of_none l)
taken_most l (y ∷ c) r = omega (arith, of_one y l c r, taken_most l c r)

-- ---- jobs that stand twice in two recordings

kept_taken : (p : ℕ → Bool) (a b l : List ℕ) → ((x : ℕ) → p x ≡ true → 2 ≤ times x a + times x b)
    → 2 * bytes (keep p l) ≤ taken (keep p l) a + taken (keep p l) b
kept_taken p a b [] t = rw (keep_nil p, bytes_nil) (omega arith)
kept_taken p a b (x ∷ xs) t = by (p x) refl (size x) (kept_taken p a b xs t)
  where
    by : (v : Bool) → p x ≡ v → Size x → 2 * bytes (keep p xs) ≤ taken (keep p xs) a + taken (keep p xs) b
        → 2 * bytes (keep p (x ∷ xs)) ≤ taken (keep p (x ∷ xs)) a + taken (keep p (x ∷ xs)) b
    by true e (few s) i = rw (keep_in p x xs e)
        (omega (arith, bytes_few x (keep p xs) s, taken_few x (keep p xs) a s, taken_few x (keep p xs) b s, t x e, i))
    by true e (many s) i = rw (keep_in p x xs e) (omega
        (arith, bytes_many x (keep p xs) s, taken_many x (keep p xs) a s, taken_many x (keep p xs) b s, t x e, i))
    by false e s i = rw (keep_out p x xs e) i

kept_most : (p : ℕ → Bool) (a b l : List ℕ) → Rising l → Above 0 l → ((x : ℕ) → p x ≡ true → 2 ≤ times x a + times x b)
    → 8 * length (keep p l) ≤ bytes a + bytes b + 254
kept_most p a b l r h t =
    let k = rising_keep p l r in
    omega (
      arith,
      places_most 0 (keep p l) k (above_keep p 0 l h),
      kept_taken p a b l t,
      taken_most (keep p l) a k,
      taken_most (keep p l) b k,
    )

-- ---- the bytes of a recording are enough for its jobs

job_groups : (v : ℕ) → 128 ≤ v → 2 ≤ length (number v)
unfolding number
job_groups v h =
    let e : groups 9 v ≡ (128 + v % 128) ∷ groups 8 (v / 128) = groups_more 8 v h in
    let n : length (groups 9 v) ≡ suc (length (groups 8 (v / 128))) = ap length e in
    omega (arith, n, groups_pos 8 (v / 128))

number_pos : (v : ℕ) → 0 < length (number v)
unfolding number
number_pos v = groups_pos 9 v

envelope_many : (s : List ℕ) (e : Envelope) → 128 ≤ e.job → 4 ≤ length (bytes_of (content_of s e))
envelope_many s e h = omega (
  arith,
  length_whole (content_of s e),
  length_header (content_of s e),
  number_pos e.kind,
  job_groups e.job h,
  number_pos e.bits,
)

read_bytes : (limit : ℕ) (s : List ℕ) → AllBytes s → (at : ℕ) (z : Result Envelope EnvelopeRefusal) (k : Envelope → Walk)
    → envelope_at limit s at ≡ z
    → ((e : Envelope) → bytes (map (λ (x : Envelope). x.job) (k e).envelopes) ≤ length s - e.next)
    → bytes (map (λ (x : Envelope). x.job) (on_read z at k).envelopes) ≤ length s - at
read_bytes limit s b at (Ok e) k p h = by (size e.job) (goes_on limit s at e (read_written limit s at b e p)) (h e)
  where
    by : Size e.job → Onward s at e → bytes (map (λ (x : Envelope). x.job) (k e).envelopes) ≤ length s - e.next
        → bytes (e.job ∷ map (λ (x : Envelope). x.job) (k e).envelopes) ≤ length s - at
    by (few f) o i = omega (arith, bytes_few e.job (map (λ (x : Envelope). x.job) (k e).envelopes) f, o.on, o.within, i)
    by (many f) o i = omega (
      arith,
      bytes_many e.job (map (λ (x : Envelope). x.job) (k e).envelopes) f,
      envelope_many s e f,
      o.next,
      o.within,
      i,
    )
read_bytes limit s b at (Err r) k p h = rw bytes_nil (omega arith)

walk_bytes : (limit : ℕ) (s : List ℕ) → AllBytes s → (f at : ℕ)
    → bytes (map (λ (x : Envelope). x.job) (walk_from_of limit s f at).envelopes) ≤ length s - at
walk_bytes limit s b zero at = rw (walk_none limit s at, bytes_nil) (omega arith)
walk_bytes limit s b (suc f) at = by (leb (length s) at) refl (λ (n : ℕ). walk_bytes limit s b f n)
  where
    by : (t : Bool) → leb (length s) at ≡ t
        → ((n : ℕ) → bytes (map (λ (x : Envelope). x.job) (walk_from_of limit s f n).envelopes) ≤ length s - n)
        → bytes (map (λ (x : Envelope). x.job) (walk_from_of limit s (suc f) at).envelopes) ≤ length s - at
    by true e i = rw (walk_end limit s (suc f) at (leb-true (length s) at e), bytes_nil) (omega arith)
    by false e i = rw (walk_on limit s f at (leb-false (length s) at e)) (read_bytes limit s b at
        (envelope_at limit s at) (λ (x : Envelope). walk_from_of limit s f x.next) refl
        (λ (x : Envelope). i x.next))

jobs_bytes : (limit : ℕ) (s : List ℕ) → AllBytes s → bytes (jobs limit s) ≤ length s
unfolding walk
jobs_bytes limit s b = omega (arith, walk_bytes limit s b (length s) 0)

-- ---- so a list that is long enough lacks nothing

only_once : (a b : List ℕ) (x : ℕ) → only a b x ≡ true → 2 ≤ times x a + times x a
only_once a b x e = omega (arith, ltb-true 0 (times x a) (and_left (ltb 0 (times x a)) (eqb (times x b) 0) e))

repeats_twice : (a b : List ℕ) (x : ℕ) → repeats a b x ≡ true → 2 ≤ times x a + times x b
repeats_twice a b x e = by (ltb 1 (times x a)) refl e
  where
    by : (t : Bool) → ltb 1 (times x a) ≡ t → (t || ltb 1 (times x b)) ≡ true → 2 ≤ times x a + times x b
    by true g h = omega (arith, ltb-true 1 (times x a) g)
    by false g h = omega (arith, ltb-true 1 (times x b) h)

module _ (limit : ℕ) (a b : List ℕ) (p : AllBytes a) (q : AllBytes b) where
  shown_most : (t : ℕ → Bool) (c d : List ℕ) → ((x : ℕ) → t x ≡ true → 2 ≤ times x c + times x d)
      → 8 * length (keep t (rising (jobs limit a) (jobs limit b))) ≤ bytes c + bytes d + 254
  shown_most t c d h = kept_most t c d (rising (jobs limit a) (jobs limit b))
      (rising_rises (jobs limit a) (jobs limit b))
      (both_above (jobs limit a) (jobs limit b) (jobs_above limit a p) (jobs_above limit b q)) h

  pub first_fits : (list : List ℕ) → enough (length a) (length list) ≡ true → lacks (only_first (jobs limit a) (jobs limit b)) list ≡ false
  unfolding only_first
  first_fits list e =
      let m = shown_most (λ (x : ℕ). only (jobs limit a) (jobs limit b) x) (jobs limit a) (jobs limit a)
      (only_once (jobs limit a) (jobs limit b)) in
      le-ltb (length list / 8)
      (length (keep (λ (x : ℕ). only (jobs limit a) (jobs limit b) x) (rising (jobs limit a) (jobs limit b))))
      (omega (arith, m, jobs_bytes limit a p, leb-true ((length a + 127) / 4) (length list / 8) e))

  pub second_fits : (list : List ℕ) → enough (length b) (length list) ≡ true → lacks (only_second (jobs limit a) (jobs limit b)) list ≡ false
  unfolding only_second
  second_fits list e =
      let m = shown_most (λ (x : ℕ). only (jobs limit b) (jobs limit a) x) (jobs limit b) (jobs limit b)
      (only_once (jobs limit b) (jobs limit a)) in
      le-ltb (length list / 8)
      (length (keep (λ (x : ℕ). only (jobs limit b) (jobs limit a) x) (rising (jobs limit a) (jobs limit b))))
      (omega (arith, m, jobs_bytes limit b q, leb-true ((length b + 127) / 4) (length list / 8) e))

  pub third_fits : (list : List ℕ) → enough ((length a + length b) / 2) (length list) ≡ true
      → lacks (repeated (jobs limit a) (jobs limit b)) list ≡ false
  unfolding repeated
  third_fits list e =
      let m = shown_most (λ (x : ℕ). repeats (jobs limit a) (jobs limit b) x) (jobs limit a) (jobs limit b)
      (repeats_twice (jobs limit a) (jobs limit b)) in
      le-ltb (length list / 8)
      (length (keep (λ (x : ℕ). repeats (jobs limit a) (jobs limit b) x) (rising (jobs limit a) (jobs limit b)))) (
      omega (
        arith,
        m,
        jobs_bytes limit a p,
        jobs_bytes limit b q,
        leb-true
            (((length a + length b) / 2 + 127) / 4) (length list / 8) e,
      ))

-- ---- lacks_room

pub lacks_none : (a b x y z : List ℕ) → lacks (only_first a b) x ≡ false → lacks (only_second a b) y ≡ false
    → lacks (repeated a b) z ≡ false
    → false ≡ (lacks (only_first a b) x || (lacks (only_second a b) y || lacks (repeated a b) z))
lacks_none a b x y z e f g = rw (e, f, g)

module _ (a b x y z : List ℕ) (c : Counts) (q : c ≡ counts a b) where
  first_of : c.first ≡ length (only_first a b)
  first_of = ap (λ (v : Counts). v.first) q

  second_of : c.second ≡ length (only_second a b)
  second_of = ap (λ (v : Counts). v.second) q

  repeated_of : c.repeated ≡ length (repeated a b)
  repeated_of = ap (λ (v : Counts). v.repeated) q

  pub lacks_first : length x / 8 < c.first → true ≡ (lacks (only_first a b) x || (lacks (only_second a b) y || lacks (repeated a b) z))
  lacks_first h = rw (lt-ltb (length x / 8) (length (only_first a b)) (omega (arith, h, first_of)))

  pub lacks_second : c.first ≤ length x / 8 → length y / 8 < c.second
      → true ≡ (lacks (only_first a b) x || (lacks (only_second a b) y || lacks (repeated a b) z))
  lacks_second g h = rw (
    le-ltb (length x / 8) (length (only_first a b)) (omega (arith, g, first_of)),
    lt-ltb
        (length y / 8) (length (only_second a b)) (omega (arith, h, second_of)),
  )

  pub lacks_third : c.first ≤ length x / 8 → c.second ≤ length y / 8
      → ltb (length z / 8) c.repeated ≡ (lacks (only_first a b) x || (lacks (only_second a b) y || lacks (repeated a b) z))
  lacks_third g h = rw (
    le-ltb (length x / 8) (length (only_first a b)) (omega (arith, g, first_of)),
    le-ltb
        (length y / 8) (length (only_second a b)) (omega (arith, h, second_of)),
    repeated_of,
  )
