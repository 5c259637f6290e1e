-- "For every way of cutting a byte string, with fragments of no bytes among them, the envelopes, the refusal and the record after it equal
-- those of reading the string whole." First of what is held, then of the record's bytes.
-- Assumes nothing.
use mathlib.Core.Path.{◌≡◌, refl, ap, sym, ◌∙◌}
use mathlib.Core.Bool.{false, cond}
use mathlib.Core.List.{List, [], ◌∷◌, ◌++◌, append_assoc, append-nil}
use Prim.Native.Nat.{ℕ, zero, suc, ◌+◌, ◌-◌, min, ◌≤◌, ◌<◌}
use native.Mathlib.Omega.{arith}
use native.Mathlib.Nat.{add-zero}
use lib.ListN.{length, take, drop, length-append, length-drop}
use lib.Seq.{take-append-le, drop-append-le, drop-drop, length-take-le}
use Rattle.envelope.specs.Envelopes.{bytes_for, envelope_at, Content, content, content_of, largest, moved}
use Rattle.envelope.specs.Strings.{ended, stopped, Walk, ends, past, on_read, walk_from_of, walk, contents_of}
use Rattle.envelope.specs.declared.EnvelopeRefusal.{EnvelopeRefusal}
use Rattle.envelope.specs.declared.EnvelopeRefusal.TheVariants.{Cut, Groups, Kind, Size}
use Rattle.envelope.specs.declared.Envelope.{Envelope}
use Rattle.envelope.proofs.Numbers.{AllBytes}
use Rattle.envelope.proofs.Longer.{envelope_stays, envelope_shifted}
use Rattle.envelope.proofs.Strings.{walk_end, walk_on}
use Rattle.fragments.specs.Mail.{Mail, part, whole, refused, fresh, is_cut, top, later}
use Rattle.fragments.specs.Cuts.{joined_up, leaves, whole_mail}
use Rattle.fragments.proofs.Ranges.{bytes_append, bytes_front, bytes_back, bytes_drop}
use Rattle.fragments.proofs.Unfinished.{Sized, next_within, next_largest, body_next, takes_some, none_open}
use Rattle.std.specs.Prelude.{Err, Ok, Result}

-- ---- the envelopes that come, and what is held after them

pub record Told : Type 0 where
  pub envelopes : List Content
  pub mail : Mail

abbrev pub told : List Content → Mail → Told
told cs m = record { envelopes = cs; mail = m }

abbrev pub add : Content → Told → Told
add c t = told (c ∷ t.envelopes) t.mail

abbrev pub onto : List Content → Told → Told
onto cs t = told (cs ++ t.envelopes) t.mail

-- the bytes w read from nothing held, at the place p: after each envelope the rest of them, if there is one; k envelopes at most
abbrev pub rest_of : (ℕ → List ℕ → Told) → ℕ → List ℕ → List ℕ → Told
rest_of go p h [] = told [] (whole p h)
rest_of go p h (x ∷ xs) = go (later p (length h)) (x ∷ xs)

abbrev pub read_as : (ℕ → List ℕ → Told) → ℕ → List ℕ → Result Envelope EnvelopeRefusal → Told
read_as go p w (Ok e) = add (content_of w e) (rest_of go p (take e.next w) (drop e.next w))
read_as go p w (Err r) = told [] (cond (is_cut r) (part p w) (refused r p))

unfoldable pub read_on : ℕ → ℕ → ℕ → List ℕ → Told
read_on limit zero p w = told [] (part p w)
read_on limit (suc k) p w = read_as (λ (q : ℕ) (v : List ℕ). read_on limit k q v) p w (envelope_at limit w 0)

pub read_on_is : (limit k p : ℕ) (w : List ℕ)
    → read_on limit (suc k) p w ≡ read_as (λ (q : ℕ) (v : List ℕ). read_on limit k q v) p w (envelope_at limit w 0)
unfolding read_on
read_on_is limit k p w = refl

is_live : (e : Envelope) → ◌≡◌ {A = Result Envelope EnvelopeRefusal} (Ok e) (Err Cut) → ⊥
is_live e q = let o : ◌≡◌ {A = ℕ} 0 1 = cc in omega arith

refused_live : (r : EnvelopeRefusal) → is_cut r ≡ false → ◌≡◌ {A = Result Envelope EnvelopeRefusal} (Err r) (Err Cut) → ⊥
refused_live Cut h q = let o : ◌≡◌ {A = ℕ} 0 1 = cc in omega arith
refused_live Groups h q = let o : ◌≡◌ {A = ℕ} 0 1 = cc in omega arith
refused_live Kind h q = let o : ◌≡◌ {A = ℕ} 0 1 = cc in omega arith
refused_live Size h q = let o : ◌≡◌ {A = ℕ} 0 1 = cc in omega arith

-- ---- of an envelope at the front of bytes

module _ (limit : ℕ) (z : Sized limit) where
  -- it takes a byte at least
  next_some : (w : List ℕ) → AllBytes w → (e : Envelope) → envelope_at limit w 0 ≡ Ok e → 0 < e.next
  next_some w b e p = takes_some limit z [] w b e (none_open limit) p

  -- what it says does not depend on what follows it
  content_stays : (w t : List ℕ) → AllBytes w → (e : Envelope) → envelope_at limit w 0 ≡ Ok e → content_of (w ++ t) e ≡ content_of w e
  content_stays w t b e p =
      let n = next_within limit z w b e p in
      let o = body_next limit z w b e p in
      let d : drop e.body (w ++ t) ≡ drop e.body w ++ t = drop-append-le e.body w t (omega arith) in
      let l : bytes_for e.bits ≤ length (drop e.body w) = rw (length-drop e.body w) (omega arith) in
      rw (d, take-append-le (bytes_for e.bits) (drop e.body w) t l)

  -- ---- the count of envelopes that may be read does not matter, if there is one for each byte

  rest_fuel : (k j p : ℕ) (h w : List ℕ)
      → ((q : ℕ) (v : List ℕ) → 0 < length v → length v ≤ length w → AllBytes v → read_on limit k q v ≡ read_on limit j q v)
      → AllBytes w
      → rest_of (λ (q : ℕ) (v : List ℕ). read_on limit k q v) p h w ≡ rest_of (λ (q : ℕ) (v : List ℕ). read_on limit j q v) p h w
  rest_fuel k j p h [] f b = refl
  rest_fuel k j p h (x ∷ xs) f b = f (later p (length h)) (x ∷ xs) (omega arith) (omega arith) b

  pub read_fuel : (k j p : ℕ) (w : List ℕ) → AllBytes w → 0 < k → 0 < j → length w ≤ k → length w ≤ j
      → read_on limit k p w ≡ read_on limit j p w
  read_fuel zero j p w b hk hj h g = absurd (omega arith)
  read_fuel (suc k) zero p w b hk hj h g = absurd (omega arith)
  read_fuel (suc k) (suc j) p w b hk hj h g =
      read_on_is limit k p w ∙ (by (envelope_at limit w 0) refl (λ (q : ℕ) (v : List ℕ) (c : AllBytes v) (o : 0 < length v)
      (s : length v < length w). read_fuel k j q v c (omega arith) (omega arith) (omega arith)
      (omega arith)) ∙ sym (read_on_is limit j p w))
    where
      by : (x : Result Envelope EnvelopeRefusal) → envelope_at limit w 0 ≡ x
          → ((q : ℕ) (v : List ℕ) → AllBytes v → 0 < length v → length v < length w → read_on limit k q v ≡ read_on limit j q v)
          → read_as (λ (q : ℕ) (v : List ℕ). read_on limit k q v) p w x ≡ read_as (λ (q : ℕ) (v : List ℕ). read_on limit j q v) p w x
      by (Err r) e f = refl
      by (Ok c) e f =
          let n = next_within limit z w b c e in
          let o = next_some w b c e in
          let l = length-drop c.next w in
          ap (add (content_of w c)) (rest_fuel k j p (take c.next w) (drop c.next w) (λ (q : ℕ) (v : List ℕ)
          (t : 0 < length v) (s : length v ≤ length (drop c.next w)) (a : AllBytes v). f q v a t
          (omega arith)) (bytes_drop c.next w b))

-- ---- what is held, and then a fragment

abbrev pub follow : ℕ → Mail → List ℕ → Told
follow limit (part p h) f = read_on limit (suc (length (h ++ f))) p (h ++ f)
follow limit (whole p h) f = rest_of (λ (q : ℕ) (v : List ℕ). read_on limit (suc (length f)) q v) p h f
follow limit (refused r p) f = told [] (refused r p)

-- what a reader may hold
abbrev pub Good : ℕ → Mail → Type 0
Good limit (part p h) = (envelope_at limit h 0 ≡ Err Cut) × (AllBytes h) × (p ≤ top)
Good limit (whole p h) = (length h ≤ largest limit) × (p ≤ top)
Good limit (refused r p) = p ≤ top

abbrev pub read_all : ℕ → ℕ → List ℕ → Told
read_all limit p w = read_on limit (suc (length w)) p w

module _ (limit : ℕ) (z : Sized limit) where
  -- what reading leaves is such
  pub good_read : (k p : ℕ) (w : List ℕ) → AllBytes w → length w < k → p ≤ top → Good limit (read_on limit k p w).mail
  good_read zero p w b h g = absurd (omega arith)
  good_read (suc k) p w b h g =
      rw (read_on_is limit k p w) (by (envelope_at limit w 0) refl (λ (q : ℕ) (v : List ℕ) (a : AllBytes v)
      (s : length v < length w) (o : q ≤ top). good_read k q v a (omega arith) o))
    where
      stop : (r : EnvelopeRefusal) → envelope_at limit w 0 ≡ Err r → Good limit (cond (is_cut r) (part p w) (refused r p))
      stop Cut e = (e, b, g)
      stop Groups e = g
      stop Kind e = g
      stop Size e = g

      rest : (h v : List ℕ) → length h ≤ largest limit → AllBytes v → length v < length w
          → ((q : ℕ) (u : List ℕ) → AllBytes u → length u < length w → q ≤ top → Good limit (read_on limit k q u).mail)
          → Good limit (rest_of (λ (q : ℕ) (u : List ℕ). read_on limit k q u) p h v).mail
      rest h [] l a s f = (l, g)
      rest h (x ∷ xs) l a s f = f (later p (length h)) (x ∷ xs) a s (omega arith)

      by : (x : Result Envelope EnvelopeRefusal) → envelope_at limit w 0 ≡ x
          → ((q : ℕ) (v : List ℕ) → AllBytes v → length v < length w → q ≤ top → Good limit (read_on limit k q v).mail)
          → Good limit (read_as (λ (q : ℕ) (v : List ℕ). read_on limit k q v) p w x).mail
      by (Err r) e f = stop r e
      by (Ok c) e f =
          let n = next_within limit z w b c e in
          let o = next_some limit z w b c e in
          let l = length-drop c.next w in
          let t = length-take-le c.next w n in
          rest (take c.next w) (drop c.next w) (omega (arith, next_largest limit z w b c e))
          (bytes_drop c.next w b) (omega arith) f

  -- ---- bytes, and more bytes behind them

  -- what an envelope leaves of them
  after_envelope : (k p : ℕ) (h v f : List ℕ) → length (v ++ f) < k → AllBytes v → AllBytes f → (v ≡ [] → ⊥)
      → rest_of (λ (q : ℕ) (u : List ℕ). read_on limit k q u) p h (v ++ f) ≡ read_on limit k (later p (length h)) (v ++ f)
  after_envelope k p h [] f l a b n = absurd (n refl)
  after_envelope k p h (x ∷ xs) f l a b n = refl

  rest_follow : (k p : ℕ) (h f : List ℕ) → length f < k → AllBytes f
      → rest_of (λ (q : ℕ) (u : List ℕ). read_on limit k q u) p h f ≡ follow limit (whole p h) f
  rest_follow k p h f l b = rest_fuel limit z k (suc (length f)) p h f (λ (q : ℕ) (v : List ℕ) (t : 0 < length v)
      (s : length v ≤ length f) (a : AllBytes v). read_fuel limit z k (suc (length f)) q v a (omega arith)
      (omega arith) (omega arith) (omega arith)) b

  read_more : (k j p : ℕ) (w f : List ℕ) → AllBytes w → AllBytes f → length w < k → length (w ++ f) < j
      → read_on limit j p (w ++ f) ≡ onto (read_on limit k p w).envelopes (follow limit (read_on limit k p w).mail f)
  read_more zero j p w f a b h g = absurd (omega arith)
  read_more (suc k) zero p w f a b h g = absurd (omega arith)
  read_more (suc k) (suc j) p w f a b h g =
      rw (read_on_is limit j p (w ++ f), read_on_is limit k p w)
      (by (envelope_at limit w 0) refl (λ (q : ℕ) (v : List ℕ) (c : AllBytes v) (s : length v < length w). read_more k j
      q v f c b (omega arith) (more v s)))
    where
      more : (v : List ℕ) → length v < length w → length (v ++ f) < j
      more v s = omega (arith, length-append v f, length-append w f)

      cut : envelope_at limit w 0 ≡ Err Cut
          → read_as (λ (q : ℕ) (v : List ℕ). read_on limit j q v) p (w ++ f) (envelope_at limit (w ++ f) 0) ≡ read_all limit p (w ++ f)
      cut e = sym (read_on_is limit j p (w ++ f)) ∙ read_fuel limit z (suc j) (suc (length (w ++ f))) p (w ++ f)
          (bytes_append w f a b) (omega arith) (omega arith) (omega arith) (omega arith)

      stop : (r : EnvelopeRefusal) → is_cut r ≡ false → envelope_at limit w 0 ≡ Err r
          → read_as (λ (q : ℕ) (v : List ℕ). read_on limit j q v) p (w ++ f) (envelope_at limit (w ++ f) 0) ≡ told [] (refused r p)
      stop r n e = rw (envelope_stays w f (Err r) (refused_live r n) limit 0 e, n)

      stops : (r : EnvelopeRefusal) → envelope_at limit w 0 ≡ Err r
          → read_as (λ (q : ℕ) (v : List ℕ). read_on limit j q v) p (w ++ f) (envelope_at limit (w ++ f) 0) ≡ follow limit (cond (is_cut r) (part p w) (refused r p)) f
      stops Cut e = cut e
      stops Groups e = stop Groups refl e
      stops Kind e = stop Kind refl e
      stops Size e = stop Size refl e

      rest : (h v : List ℕ) → AllBytes v → length v < length w
          → ((q : ℕ) (u : List ℕ) → AllBytes u → length u < length w → read_on limit j q (u ++ f) ≡ onto (read_on limit k q u).envelopes (follow limit (read_on limit k q u).mail f))
          → rest_of (λ (q : ℕ) (u : List ℕ). read_on limit j q u) p h (v ++ f) ≡ onto (rest_of (λ (q : ℕ) (u : List ℕ). read_on limit k q u) p h v).envelopes (follow limit (rest_of (λ (q : ℕ) (u : List ℕ). read_on limit k q u) p h v).mail f)
      rest h [] c s ih = rest_follow j p h f (omega (arith, length-append w f)) b
      rest h (x ∷ xs) c s ih = ih (later p (length h)) (x ∷ xs) c s

      by : (x : Result Envelope EnvelopeRefusal) → envelope_at limit w 0 ≡ x
          → ((q : ℕ) (v : List ℕ) → AllBytes v → length v < length w → read_on limit j q (v ++ f) ≡ onto (read_on limit k q v).envelopes (follow limit (read_on limit k q v).mail f))
          → read_as (λ (q : ℕ) (v : List ℕ). read_on limit j q v) p (w ++ f) (envelope_at limit (w ++ f) 0) ≡ onto (read_as (λ (q : ℕ) (v : List ℕ). read_on limit k q v) p w x).envelopes (follow limit (read_as (λ (q : ℕ) (v : List ℕ). read_on limit k q v) p w x).mail f)
      by (Err r) e ih = stops r e
      by (Ok c) e ih =
          let n = next_within limit z w a c e in
          let o = next_some limit z w a c e in
          let l = length-drop c.next w in
          rw (
            envelope_stays w f (Ok c) (is_live c) limit 0 e,
            content_stays limit z w f a c e,
            take-append-le c.next
                w f n,
            drop-append-le c.next w f n,
          )
          (ap (add (content_of w c)) (rest (take c.next w) (drop c.next w) (bytes_drop c.next w a) (omega arith) ih))

-- ---- the walk of crate envelope leaves the same

module _ (limit : ℕ) (z : Sized limit) (s : List ℕ) (b : AllBytes s) where
  shifted : (at : ℕ) → at ≤ length s → envelope_at limit s at ≡ moved at (envelope_at limit (drop at s) 0)
  shifted at h = rw (add-zero at) at (envelope_shifted s at h limit 0)

  content_shifted : (at : ℕ) (e : Envelope) → content e.kind e.job e.bits (drop (at + e.body) s) ≡ content_of (drop at s) e
  content_shifted at e = rw (drop-drop e.body at s)

  abbrev walked : ℕ → ℕ → Walk
  walked k at = walk_from_of limit s k at

  abbrev leaves_of : Mail → ℕ → Walk → Told
  leaves_of m at w = told (contents_of s w.envelopes) (leaves s m at w.envelopes w.ending)

  stop_leaves : (m : Mail) (at : ℕ) (r : EnvelopeRefusal)
      → leaves_of m at (ends (stopped r at)) ≡ told [] (cond (is_cut r) (part (min at top) (drop at s)) (refused r (min at top)))
  unfolding leaves
  stop_leaves m at r = refl

  end_leaves : (m : Mail) (at n : ℕ) → leaves_of m at (ends (ended n)) ≡ told [] m
  unfolding leaves
  end_leaves m at n = refl

  past_leaves : (m : Mail) (at : ℕ) (e : Envelope) (w : Walk)
      → leaves_of m at (past e w) ≡ add (content_of s e) (leaves_of (whole (min at top) (take (e.next - at) (drop at s))) e.next w)
  unfolding leaves
  past_leaves m at e w = refl

  pub walk_read : (k at : ℕ) (m : Mail) → at < length s → length s ≤ at + k
      → read_on limit k (min at top) (drop at s) ≡ leaves_of m at (walked k at)
  walk_read zero at m h g = absurd (omega arith)
  walk_read (suc k) at m h g =
      rw (read_on_is limit k (min at top) (drop at s), walk_on limit s k at h, shifted at (omega arith))
      (by (envelope_at limit (drop at s) 0) refl (λ (n : ℕ) (x : Mail) (l : n < length s) (q : at < n). walk_read k n x l (omega arith)))
    where
      rest : (e : Envelope) → e.next ≤ length s - at → 0 < e.next → (v : List ℕ) → drop (at + e.next) s ≡ v
          → ((n : ℕ) (x : Mail) → n < length s → at < n → read_on limit k (min n top) (drop n s) ≡ leaves_of x n (walked k n))
          → rest_of (λ (q : ℕ) (u : List ℕ). read_on limit k q u) (min at top) (take e.next (drop at s)) v ≡ leaves_of (whole (min at top) (take (at + e.next - at) (drop at s))) (at + e.next) (walked k (at + e.next))
      rest e n o [] p ih =
          let l : length (drop (at + e.next) s) ≡ length s - (at + e.next) = length-drop (at + e.next) s in
          let c : length (drop (at + e.next) s) ≡ 0 = ap length p in
          let q : at + e.next - at ≡ e.next = omega arith in
          rw (
            walk_end limit s k (at + e.next) (omega arith),
            end_leaves
                (whole (min at top) (take (at + e.next - at) (drop at s))) (at + e.next) (at + e.next),
            q,
          )
      rest e n o (x ∷ xs) p ih =
          let l : length (drop (at + e.next) s) ≡ length s - (at + e.next) = length-drop (at + e.next) s in
          let c : length (drop (at + e.next) s) ≡ suc (length xs) = ap length p in
          let t : length (take e.next (drop at s)) ≡ e.next = length-take-le e.next (drop at s) (rw (length-drop at s) n) in
          let q : min (min at top + e.next) top ≡ min (at + e.next) top = omega arith in
          let i = ih (at + e.next) (whole (min at top) (take (at + e.next - at) (drop at s))) (omega arith) (omega arith) in
          rw (t, q, ← p) i

      by : (x : Result Envelope EnvelopeRefusal) → envelope_at limit (drop at s) 0 ≡ x
          → ((n : ℕ) (y : Mail) → n < length s → at < n → read_on limit k (min n top) (drop n s) ≡ leaves_of y n (walked k n))
          → read_as (λ (q : ℕ) (v : List ℕ). read_on limit k q v) (min at top) (drop at s) x ≡ leaves_of m at (on_read (moved at x) at (λ (e : Envelope). walk_from_of limit s k e.next))
      by (Err r) e ih = sym (stop_leaves m at r)
      by (Ok c) e ih =
          let d = length-drop at s in
          let n = next_within limit z (drop at s) (bytes_drop at s b) c e in
          let o = next_some limit z (drop at s) (bytes_drop at s b) c e in
          rw (drop-drop c.next at s)
          (ap (add (content_of (drop at s) c)) (rest c (omega arith) o (drop (at + c.next) s) refl ih)
          ∙ sym (past_leaves m at (record { kind = c.kind; job = c.job; bits = c.bits; body = at + c.body; next = at + c.next }) (walked k (at + c.next)) ∙ rw (content_shifted at c)))

pub whole_read_is : (limit : ℕ) → Sized limit → (s : List ℕ) → AllBytes s
    → read_all limit 0 s ≡ told (contents_of s (walk limit s).envelopes) (whole_mail limit s)
unfolding walk whole_mail leaves
whole_read_is limit z [] b = rw (read_on_is limit 0 0 [], none_open limit, walk_end limit [] 0 0 (omega arith))
whole_read_is limit z (x ∷ xs) b =
    let o : min 0 top ≡ 0 = omega arith in
    read_fuel limit z (suc (length (x ∷ xs))) (length (x ∷ xs)) 0 (x ∷ xs) b (omega arith) (omega arith) (omega arith) (omega arith)
    ∙ rw o at (walk_read limit z (x ∷ xs) b (length (x ∷ xs)) 0 fresh (omega arith) (omega arith))

-- ---- one fragment after the other

unfoldable pub follow_all : ℕ → Mail → List (List ℕ) → Told
follow_all limit m [] = told [] m
follow_all limit m (f ∷ fs) = onto (follow limit m f).envelopes (follow_all limit (follow limit m f).mail fs)

module _ (limit : ℕ) (z : Sized limit) where
  pub good_follow : (m : Mail) (f : List ℕ) → Good limit m → AllBytes f → Good limit (follow limit m f).mail
  good_follow (part p h) f g b = good_read limit z (suc (length (h ++ f))) p (h ++ f) (bytes_append h f g.1 b) (omega arith) g.2
  good_follow (whole p h) [] g b = g
  good_follow (whole p h) (x ∷ xs) g b = good_read limit z (suc (length (x ∷ xs))) (later p (length h)) (x ∷ xs) b
      (omega arith) (omega arith)
  good_follow (refused r p) f g b = g

  pub read_all_is : (s : List ℕ) (fs : List (List ℕ)) → AllBytes s → AllBytes (joined_up fs)
      → read_all limit 0 (s ++ joined_up fs) ≡ onto (read_all limit 0 s).envelopes (follow_all limit (read_all limit 0 s).mail fs)
  unfolding follow_all joined_up
  read_all_is s [] a b = rw (append-nil s, append-nil (read_all limit 0 s).envelopes)
  read_all_is s (f ∷ fs) a b =
      let c : AllBytes f = bytes_front f (joined_up fs) b in
      let d : AllBytes (joined_up fs) = bytes_back f (joined_up fs) b in
      let m = read_more limit z (suc (length s)) (suc (length (s ++ f))) 0 s f a c (omega arith) (omega arith) in
      let i = read_all_is (s ++ f) fs (bytes_append s f a c) d in
      rw (
        ← append_assoc s f (joined_up fs),
        i,
        m,
        append_assoc (read_all limit 0 s).envelopes
            (follow limit (read_all limit 0 s).mail f).envelopes
            (follow_all limit (follow limit (read_all limit 0 s).mail f).mail fs).envelopes,
      )
