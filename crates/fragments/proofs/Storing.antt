-- Laws of the record: what was stored is loaded again, and the ways out of loading and storing, as the code has them.
-- Assumes nothing.
use mathlib.Core.Path.{◌≡◌, refl, ap, sym, ◌∙◌}
use mathlib.Core.Bool.{Bool, true, false, cond, ◌&&◌}
use mathlib.Core.List.{List, [], ◌∷◌, ◌++◌}
use Prim.Native.Nat.{ℕ, ◌+◌, ◌-◌, ◌*◌, ◌/◌, ◌%◌, ◌≤◌, ◌<◌}
use native.Mathlib.Omega.{arith}
use lib.Dec.{leb, eqb}
use lib.ListN.{length, drop, get_or, length-append}
use lib.Seq.{sets, take_at, drop_at, drop-append-add}
use borrow.Author.Tests.{eq-eqb, ne_eqb, le-leb, lt-leb, eqb-true, leb-true}
use Rattle.envelope.specs.Envelopes.{refusal_number, largest}
use Rattle.envelope.specs.declared.EnvelopeRefusal.{EnvelopeRefusal}
use Rattle.envelope.specs.declared.EnvelopeRefusal.TheVariants.{Cut, Groups, Kind, Size}
use Rattle.fragments.specs.declared.Taken.TheVariants as taken
use Rattle.fragments.specs.declared.Untaken.TheVariants as untaken
use Rattle.fragments.specs.Mail.{Mail, refused, head, top}
use Rattle.std.specs.Int.{to_be_bytes, w64}
use Rattle.fragments.specs.Record.{Loading, record_bytes, eight_of, of_two, of_eight, head_at, state_of, place_of, held_of, head_of, zeros, padded, record_of, empty_of, count_in, place_in, held_in, loaded_by, load_at, laid, after, fresh_at}
use Rattle.fragments.proofs.Ranges.{drop_zeros, length_zeros, length_padded, padded_more, headed, headed_whole}
use Rattle.std.specs.Prelude.{Err, Ok}

-- ---- numbers in bytes

digits_back : (g f e d c b a n : ℕ) → f / 256 ≡ g → e / 256 ≡ f → d / 256 ≡ e → c / 256 ≡ d → b / 256 ≡ c → a / 256 ≡ b
    → n / 256 ≡ a → g < 256
    → of_eight (g % 256) (f % 256) (e % 256) (d % 256) (c % 256) (b % 256) (a % 256) (n % 256) ≡ n
unfolding of_eight
digits_back g f e d c b a n p₁ p₂ p₃ p₄ p₅ p₆ p₇ h =
    let s₁ : g % 256 * 256 + f % 256 ≡ f = omega arith in
    let s₂ : f * 256 + e % 256 ≡ e = omega arith in
    let s₃ : e * 256 + d % 256 ≡ d = omega arith in
    let s₄ : d * 256 + c % 256 ≡ c = omega arith in
    let s₅ : c * 256 + b % 256 ≡ b = omega arith in
    let s₆ : b * 256 + a % 256 ≡ a = omega arith in
    let s₇ : a * 256 + n % 256 ≡ n = omega arith in
    rw (s₁, s₂, s₃, s₄, s₅, s₆, s₇)

top_digit : (n : ℕ) → n ≤ top → n / 256 / 256 / 256 / 256 / 256 / 256 / 256 < 256
top_digit n h =
    let a : n / 256 < 72057594037927936 = omega arith in
    let b : n / 256 / 256 < 281474976710656 = omega (arith, a) in
    let c : n / 256 / 256 / 256 < 1099511627776 = omega (arith, b) in
    let d : n / 256 / 256 / 256 / 256 < 4294967296 = omega (arith, c) in
    let e : n / 256 / 256 / 256 / 256 / 256 < 16777216 = omega (arith, d) in
    let f : n / 256 / 256 / 256 / 256 / 256 / 256 < 65536 = omega (arith, e) in
    omega (arith, f)

two_back : (n : ℕ) → n < 65536 → of_two (n / 256 % 256) (n % 256) ≡ n
two_back n h = omega arith

-- ---- the head

pub length_head : (state n p : ℕ) → length (head_at state n p) ≡ head
unfolding head_at eight_of
length_head state n p = refl

state_in : (state n p : ℕ) (t : List ℕ) → get_or (head_at state n p ++ t) 0 0 ≡ state
unfolding head_at eight_of
state_in state n p t = refl

count_in_is : (state n p : ℕ) (t : List ℕ) → n < 65536 → count_in (head_at state n p ++ t) ≡ n
unfolding head_at eight_of
count_in_is state n p t h = two_back n h

place_in_is : (state n p : ℕ) (t : List ℕ) → p ≤ top → place_in (head_at state n p ++ t) ≡ p
unfolding head_at eight_of
place_in_is state n p t h =
    digits_back (p / 256 / 256 / 256 / 256 / 256 / 256 / 256) (p / 256 / 256 / 256 / 256 / 256 / 256)
    (p / 256 / 256 / 256 / 256 / 256) (p / 256 / 256 / 256 / 256) (p / 256 / 256 / 256) (p / 256 / 256) (p / 256) p
    refl refl refl refl refl refl refl (top_digit p h)

-- the code puts it in two pieces
pub head_put : (b y z x w : List ℕ) (state n p : ℕ) → x ≡ state ∷ n / 256 % 256 ∷ n % 256 ∷ [] → w ≡ eight_of p
    → y ≡ sets b 0 x → z ≡ sets y 3 w → z ≡ sets b 0 (head_at state n p)
unfolding head_at
head_put b y z x w state n p e f g h = h ∙ rw (g, f, e)

-- ---- the record

record_is : (limit : ℕ) (m : Mail) → record_of limit m ≡ head_of m ++ padded (largest limit) (held_of m)
unfolding record_of
record_is limit m = refl

module _ (limit : ℕ) (m : Mail) (fits : length (held_of m) ≤ largest limit) where
  pub length_record : length (record_of limit m) ≡ record_bytes limit
  unfolding record_of
  length_record =
      length-append (head_of m) (padded (largest limit) (held_of m))
      ∙ omega (arith, length_head (state_of m) (length (held_of m)) (place_of m), length_padded (largest limit) (held_of m))

  pub held_record : held_in (length (held_of m)) (record_of limit m) ≡ held_of m
  unfolding record_of padded
  held_record =
      rw (drop_at (head_of m) (held_of m ++ zeros (largest limit - length (held_of m))) head
      (length_head (state_of m) (length (held_of m)) (place_of m)))
      (take_at (held_of m) (zeros (largest limit - length (held_of m))) (length (held_of m)) refl)

  state_record : get_or (record_of limit m) 0 0 ≡ state_of m
  unfolding record_of
  state_record = state_in (state_of m) (length (held_of m)) (place_of m) (padded (largest limit) (held_of m))

  pub count_record : largest limit < 65536 → count_in (record_of limit m) ≡ length (held_of m)
  unfolding record_of
  count_record h = count_in_is (state_of m) (length (held_of m)) (place_of m) (padded (largest limit) (held_of m)) (omega arith)

  pub place_record : place_of m ≤ top → place_in (record_of limit m) ≡ place_of m
  unfolding record_of
  place_record p = place_in_is (state_of m) (length (held_of m)) (place_of m) (padded (largest limit) (held_of m)) p

  pub load_record : largest limit < 65536 → place_of m ≤ top
      → load_at limit (record_of limit m) ≡ loaded_by (state_of m) (length (held_of m)) (place_of m)
  unfolding load_at
  load_record h p =
      rw (
        eq-eqb (length (record_of limit m)) (record_bytes limit) length_record,
        count_record h,
        le-leb
            (length (held_of m)) (largest limit) fits,
        state_record,
        place_record p,
      )

-- what a record has past q bytes of the envelope
rest_zeros : (limit : ℕ) (m : Mail) (q : ℕ) → length (held_of m) ≤ q → drop (head + q) (record_of limit m) ≡ zeros (largest limit - q)
unfolding record_of padded
rest_zeros limit m q k =
    let o : head + q ≡ length (head_of m) + q = ap (λ (j : ℕ). j + q) (sym (length_head (state_of m) (length (held_of m)) (place_of m))) in
    let r : q ≡ length (held_of m) + (q - length (held_of m)) = omega arith in
    let d : largest limit - length (held_of m) - (q - length (held_of m)) ≡ largest limit - q = omega arith in
    ap (λ (j : ℕ). drop j (head_of m ++ (held_of m ++ zeros (largest limit - length (held_of m))))) o
    ∙ (drop-append-add (head_of m) (held_of m ++ zeros (largest limit - length (held_of m))) q
    ∙ (ap (λ (j : ℕ). drop j (held_of m ++ zeros (largest limit - length (held_of m)))) r
    ∙ (drop-append-add (held_of m) (zeros (largest limit - length (held_of m))) (q - length (held_of m))
    ∙ (drop_zeros (q - length (held_of m)) (largest limit - length (held_of m)) ∙ rw d))))

-- a record laid over another
pub laid_record : (limit : ℕ) (m x : Mail) → length (held_of m) ≤ largest limit → length (held_of x) ≤ largest limit
    → laid (length (held_of m)) (record_of limit m) x ≡ record_of limit x
unfolding laid
laid_record limit m x h g =
    let n = length_padded (length (held_of m)) (held_of x) in
    let l = length_record limit m h in
    headed (record_of limit m) (head_of x) (padded (length (held_of m)) (held_of x))
    (length_head (state_of x) (length (held_of x)) (place_of x)) (omega arith)
    ∙ (rw (
      rest_zeros limit m (length (padded (length (held_of m)) (held_of x))) (omega arith),
      padded_more
          (length (held_of m)) (largest limit) (held_of x) h,
    ) (sym (record_is limit x)))

-- zeros and a head over a whole range
pub empty_put : (limit : ℕ) (b y z : List ℕ) (state p : ℕ) → length b ≡ record_bytes limit
    → y ≡ sets b head (zeros (length b - head)) → z ≡ sets y 0 (head_at state 0 p) → z ≡ empty_of limit state p
unfolding padded
empty_put limit b y z state p l g h =
    let n : length b - head ≡ largest limit - 0 = omega arith in
    let k : length (zeros (largest limit - 0)) ≡ largest limit - 0 = length_zeros (largest limit - 0) in
    h ∙ rw (g, n) (headed_whole b (head_at state 0 p) (zeros (largest limit - 0)) (length_head state 0 p) (omega arith))

-- ---- the ways out of `load`, as the code has them

pub load_long : (limit : ℕ) (b : List ℕ) → (length b ≡ record_bytes limit → ⊥) → (Err untaken.Shape) ≡ load_at limit b
unfolding load_at
load_long limit b h = rw (ne_eqb (length b) (record_bytes limit) h)

module _ (limit : ℕ) (b : List ℕ) (n : ℕ) (l : length b ≡ record_bytes limit) (e : n ≡ count_in b) where
  pub load_many : largest limit < n → (Err untaken.Shape) ≡ load_at limit b
  unfolding load_at
  load_many h = rw (eq-eqb (length b) (record_bytes limit) l, ← e, lt-leb n (largest limit) h)

  pub load_is : (x : Loading) (p : ℕ) → n ≤ largest limit → p ≡ place_in b → x ≡ loaded_by (get_or b 0 0) n p → x ≡ load_at limit b
  unfolding load_at
  load_is x p h f g = g ∙ rw (eq-eqb (length b) (record_bytes limit) l, ← e, le-leb n (largest limit) h, ← f)

-- what was loaded, if it was a record
pub record Loads (limit : ℕ) (b : List ℕ) (x : Loading) : Type 0 where
  pub size : length b ≡ record_bytes limit
  pub count : count_in b ≤ largest limit
  pub by : loaded_by (get_or b 0 0) (count_in b) (place_in b) ≡ x

module _ (limit : ℕ) (b : List ℕ) where
  by_tests : (t u : Bool) (x : Loading) → eqb (length b) (record_bytes limit) ≡ t → leb (count_in b) (largest limit) ≡ u
      → cond (t && u) (loaded_by (get_or b 0 0) (count_in b) (place_in b)) (Err untaken.Shape) ≡ x → (x ≡ Err untaken.Shape → ⊥)
      → Loads limit b x
  by_tests true true x p q e h = record { size = eqb-true (length b) (record_bytes limit) p; count = leb-true (count_in b) (largest limit) q; by = e }
  by_tests true false x p q e h = absurd (h (sym e))
  by_tests false u x p q e h = absurd (h (sym e))

  pub loads : (x : Loading) → load_at limit b ≡ x → (x ≡ Err untaken.Shape → ⊥) → Loads limit b x
  unfolding load_at
  loads x e h = by_tests (eqb (length b) (record_bytes limit)) (leb (count_in b) (largest limit)) x refl refl e h

-- ---- eight bytes, as the library makes them

pub eight_is : (n : ℕ) (l : List ℕ) → l ≡ to_be_bytes w64 n → l ≡ eight_of n
unfolding eight_of
eight_is n l e =
    let a : n / 65536 ≡ n / 256 / 256 = omega arith in
    let b : n / 16777216 ≡ n / 256 / 256 / 256 = omega arith in
    let c : n / 4294967296 ≡ n / 256 / 256 / 256 / 256 = omega arith in
    let d : n / 1099511627776 ≡ n / 256 / 256 / 256 / 256 / 256 = omega arith in
    let f : n / 281474976710656 ≡ n / 256 / 256 / 256 / 256 / 256 / 256 = omega arith in
    let g : n / 72057594037927936 ≡ n / 256 / 256 / 256 / 256 / 256 / 256 / 256 = omega arith in
    e ∙ rw (a, b, c, d, f, g)

-- ---- a fresh record, and one of a refusal

pub fresh_odd : (limit : ℕ) (b : List ℕ) → (length b ≡ record_bytes limit → ⊥) → after (Err untaken.Shape) b ≡ fresh_at limit b
unfolding fresh_at
fresh_odd limit b h = rw (ne_eqb (length b) (record_bytes limit) h)

pub fresh_made : (limit : ℕ) (b z : List ℕ) → length b ≡ record_bytes limit → z ≡ empty_of limit 0 0
    → after (Ok (taken.Part 0)) z ≡ fresh_at limit b
unfolding fresh_at record_of
fresh_made limit b z l e = rw (eq-eqb (length b) (record_bytes limit) l, e)

pub refusal_made : (limit : ℕ) (z : List ℕ) (r : EnvelopeRefusal) (k p : ℕ) → k ≡ refusal_number r
    → z ≡ empty_of limit k p → after (Err (untaken.Refused r)) z ≡ after (Err (untaken.Refused r)) (record_of limit (refused r p))
unfolding record_of
refusal_made limit z r k p e h = rw (h, e)
