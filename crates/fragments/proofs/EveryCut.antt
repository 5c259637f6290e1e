-- The theorem of E4, of the bytes that the calls' contracts speak of. `every_cut`: whatever the fragments are that a byte string is cut
-- into, the calls hand out the envelopes of the string and leave the record that reading it whole leaves. `cut_alike`: so two ways of cutting
-- leave the same bytes. `ended_as_whole`: the end is refused exactly where the whole string is, and with the same number and place.
-- Assumes nothing.
use mathlib.Core.Path.{◌≡◌, refl, ap, sym, ◌∙◌, subst}
use mathlib.Core.List.{List, [], ◌∷◌, ◌++◌}
use Prim.Native.Nat.{ℕ, zero, suc, ◌+◌, ◌-◌, min, ◌≤◌, ◌<◌}
use native.Mathlib.Omega.{arith}
use lib.ListN.{length, take, drop, length-append, length-drop, take-append-drop}
use lib.Seq.{take-append-le, drop-append-le, drop-append-add, drop-drop, length-take-le, drop_at}
use borrow.Author.Tests.{ne_eqb}
use Rattle.envelope.specs.Envelopes.{bytes_for, envelope_at, Content, content_of, largest, most_bits}
use Rattle.envelope.specs.Strings.{Ending, ended, stopped, Walk, walk, string_of, Told as Says, whole as Says-All, broken as says-part}
use Rattle.envelope.specs.declared.EnvelopeRefusal.{EnvelopeRefusal}
use Rattle.envelope.specs.declared.EnvelopeRefusal.TheVariants.{Cut, Groups, Kind, Size}
use Rattle.envelope.specs.declared.Envelope.{Envelope}
use Rattle.envelope.proofs.Numbers.{AllBytes}
use Rattle.envelope.proofs.Strings.{every_string}
use Rattle.fragments.specs.declared.Taken.TheVariants as taken
use Rattle.fragments.specs.declared.Untaken.TheVariants as untaken
use Rattle.fragments.specs.Mail.{Mail, part, whole, refused, fresh, head, in_record, Step, onward, joined, top, later}
use Rattle.fragments.specs.Record.{head_of, state_of, place_of, held_of, padded, zeros, record_of, loaded_by, load_at, After, after, keep, kept, resumed, begun, take_at, cut_short, end_at}
use Rattle.fragments.specs.Cuts.{Fed, fed, go_on, hand_over, hand_all, joined_up, stopped_at, leaves, whole_mail, whole_read, whole_end}
use Rattle.fragments.proofs.Ranges.{bytes_append, bytes_front, bytes_back, bytes_drop}
use Rattle.fragments.proofs.Unfinished.{Sized, lacks, next_within, next_largest, body_next, takes_some, none_open, is_open}
use Rattle.fragments.proofs.Storing.{length_head, held_record, load_record, laid_record}
use Rattle.fragments.proofs.Calls.{sized}
use Rattle.fragments.proofs.Whole.{Told, told, onto, rest_of, read_as, read_on, read_on_is, read_fuel, read_all, follow, follow_all, Good, good_follow, good_read, read_all_is, whole_read_is}
use Rattle.std.specs.Prelude.{Err, Ok, Result}

abbrev pub fed_of : ℕ → Told → Fed
fed_of limit t = fed t.envelopes (record_of limit t.mail)

module _ (limit : ℕ) (z : Sized limit) where
  -- ---- one call on a record

  pub fits : (m : Mail) → Good limit m → length (held_of m) ≤ largest limit
  fits (part p h) g = omega (arith, (lacks limit z h g.1 g.0).room)
  fits (whole p h) g = g.0
  fits (refused r p) g = omega arith

  pub placed : (m : Mail) → Good limit m → place_of m ≤ top
  placed (part p h) g = g.2
  placed (whole p h) g = g.1
  placed (refused r p) g = g

  pub loads : (m : Mail) → Good limit m → load_at limit (record_of limit m) ≡ loaded_by (state_of m) (length (held_of m)) (place_of m)
  loads m g = load_record limit m (fits m g) z.most (placed m g)

  keeps : (m x : Mail) → length (held_of m) ≤ largest limit → length (held_of x) ≤ largest limit
      → keep limit (length (held_of m)) (record_of limit m) x ≡ record_of limit x
  keeps m (part p h) a b = laid_record limit m (part p h) a b
  keeps m (whole p h) a b = laid_record limit m (whole p h) a b
  keeps m (refused r p) a b = refl

  -- what is held after a fragment fits
  joined_fits : (p : ℕ) (h f : List ℕ) → AllBytes (h ++ f) → length (held_of (joined limit p h f).mail) ≤ largest limit
  unfolding joined
  joined_fits p h f b = by (envelope_at limit (h ++ f) 0) refl
    where
      cut : (r : EnvelopeRefusal) → envelope_at limit (h ++ f) 0 ≡ Err r
          → length (held_of (onward p h f (Err r)).mail) ≤ largest limit
      cut Cut e = omega (arith, (lacks limit z (h ++ f) b e).room)
      cut Groups e = omega arith
      cut Kind e = omega arith
      cut Size e = omega arith

      by : (x : Result Envelope EnvelopeRefusal) → envelope_at limit (h ++ f) 0 ≡ x → length (held_of (onward p h f x).mail) ≤ largest limit
      by (Ok c) e = omega (
        arith,
        length-take-le c.next (h ++ f) (next_within limit z (h ++ f) b c e),
        next_largest
            limit z (h ++ f) b c e,
      )
      by (Err r) e = cut r e

  -- the answer to a fragment, and the record after it
  abbrev pub stepped : Step → After
  stepped s = after s.answer (record_of limit s.mail)

  pub take_held : (p : ℕ) (h f : List ℕ) → Good limit (part p h) → AllBytes f
      → take_at limit (record_of limit (part p h)) f ≡ stepped (joined limit p h f)
  unfolding take_at loaded_by resumed kept
  take_held p h f g b =
      rw (
        loads (part p h) g,
        held_record limit (part p h) (fits (part p h) g),
        is_open limit h g.0,
        keeps (part p h)
            (joined limit p h f).mail (fits (part p h) g) (joined_fits p h f (bytes_append h f g.1 b)),
      )

  pub take_behind : (p : ℕ) (h f : List ℕ) → Good limit (whole p h) → AllBytes f → (length f ≡ 0 → ⊥)
      → take_at limit (record_of limit (whole p h)) f ≡ stepped (joined limit (later p (length h)) [] f)
  unfolding take_at loaded_by begun kept
  take_behind p h f g b n =
      rw (
        loads (whole p h) g,
        ne_eqb (length f) 0 n,
        keeps (whole p h) (joined limit (later p (length h)) [] f).mail
            g.0 (joined_fits (later p (length h)) [] f b),
      )

  pub take_nothing : (p : ℕ) (h : List ℕ) → Good limit (whole p h)
      → take_at limit (record_of limit (whole p h)) [] ≡ after (Ok (taken.Part 0)) (record_of limit (whole p h))
  unfolding take_at loaded_by begun
  take_nothing p h g = rw (loads (whole p h) g)

  pub take_refused : (r : EnvelopeRefusal) (p : ℕ) (f : List ℕ) → Good limit (refused r p)
      → take_at limit (record_of limit (refused r p)) f ≡ after (Err (untaken.Refused r)) (record_of limit (refused r p))
  unfolding take_at loaded_by
  take_refused Cut p f g = rw (loads (refused Cut p) g)
  take_refused Groups p f g = rw (loads (refused Groups p) g)
  take_refused Kind p f g = rw (loads (refused Kind p) g)
  take_refused Size p f g = rw (loads (refused Size p) g)

  -- ---- a finished envelope says in the record what it says in the string

  content_held : (p : ℕ) (w : List ℕ) → AllBytes w → (e : Envelope) → envelope_at limit w 0 ≡ Ok e
      → content_of (record_of limit (whole p (take e.next w))) (in_record e) ≡ content_of w e
  unfolding record_of padded
  content_held p w b e q =
      let n = next_within limit z w b e q in
      let o = body_next limit z w b e q in
      let l = length-take-le e.next w n in
      let hd = head_of (whole p (take e.next w)) in
      let k : length hd ≡ head = length_head 1 (length (take e.next w)) p in
      let zs = zeros (largest limit - length (take e.next w)) in
      let a : drop (head + e.body) (hd ++ (take e.next w ++ zs)) ≡ drop e.body (take e.next w ++ zs) = sym
      (drop-drop e.body head (hd ++ (take e.next w ++ zs))) ∙ ap (drop e.body)
      (drop_at hd (take e.next w ++ zs) head k) in
      let c : drop e.body (take e.next w ++ zs) ≡ drop e.body (take e.next w) ++ zs = drop-append-le
      e.body (take e.next w) zs (omega arith) in
      let d : length (drop e.body (take e.next w)) ≡ bytes_for e.bits = length-drop e.body (take e.next w) ∙ omega arith in
      let f : take (bytes_for e.bits) (drop e.body (take e.next w) ++ zs) ≡ take (bytes_for e.bits)
      (drop e.body (take e.next w)) = take-append-le (bytes_for e.bits) (drop e.body (take e.next w))
      zs (omega arith) in
      let g : take (bytes_for e.bits) (drop e.body (take e.next w)) ≡ take (bytes_for e.bits)
      (drop e.body w) = within e.next e.body (bytes_for e.bits) w n o in
      ap (λ (y : List ℕ). content_of_is e.kind e.job e.bits y) (ap (take (bytes_for e.bits)) (a ∙ c) ∙ (f ∙ g))
    where
      content_of_is : ℕ → ℕ → ℕ → List ℕ → Content
      content_of_is kind job bits y = record { kind = kind; job = job; bits = bits; body = y }

      within : (n m k : ℕ) (w : List ℕ) → n ≤ length w → n ≡ m + k → take k (drop m (take n w)) ≡ take k (drop m w)
      within n m k w h e =
          let l = length-take-le n w h in
          let s : drop m w ≡ drop m (take n w) ++ drop n w = ap (drop m) (sym (take-append-drop n w)) ∙ drop-append-le m
          (take n w) (drop n w) (omega arith) in
          rw (s, take-append-le k (drop m (take n w)) (drop n w) (rw (length-drop m (take n w)) (omega arith)))

  -- ---- one fragment

  hand_on : (k : ℕ) (b f : List ℕ)
      → hand_over limit (suc k) b f ≡ go_on (take_at limit b f).answer (take_at limit b f).bytes (λ (n : ℕ). hand_over limit k (take_at limit b f).bytes (drop n f))
  unfolding hand_over
  hand_on k b f = refl

  hand_step : (k : ℕ) (b f : List ℕ) (s : Step) → take_at limit b f ≡ stepped s
      → hand_over limit (suc k) b f ≡ go_on s.answer (record_of limit s.mail) (λ (n : ℕ). hand_over limit k (record_of limit s.mail) (drop n f))
  hand_step k b f s e = hand_on k b f ∙ rw e

  -- the rest of a fragment behind an envelope
  hand_rest : (k p : ℕ) (h f : List ℕ)
      → hand_over limit k (record_of limit (whole p h)) f ≡ fed_of limit (follow limit (whole p h) f) → (j : ℕ)
      → length f ≤ j → 0 < j → AllBytes f
      → hand_over limit k (record_of limit (whole p h)) f ≡ fed_of limit (rest_of (λ (q : ℕ) (v : List ℕ). read_on limit j q v) p h f)
  hand_rest k p h [] e j l o b = e
  hand_rest k p h (x ∷ xs) e j l o b = e ∙ ap (fed_of limit)
      (read_fuel limit z (suc (length (x ∷ xs))) j (later p (length h)) (x ∷ xs) b (omega arith) o (omega arith) l)

  -- a fragment behind what is unfinished, if the rest of it goes on as it should
  module _ (k p : ℕ) (b h f : List ℕ) (c : envelope_at limit h 0 ≡ Err Cut) (bytes : AllBytes (h ++ f)) (size : length f ≤ k) (e : take_at limit b f ≡ stepped (joined limit p h f))
      (ih : (m : Mail) (v : List ℕ) → Good limit m → AllBytes v → length v < k → hand_over limit k (record_of limit m) v ≡
      fed_of limit (follow limit m v))
      (good : p ≤ top) where
    joined_by : (x : Result Envelope EnvelopeRefusal) → envelope_at limit (h ++ f) 0 ≡ x
        → go_on (onward p h f x).answer (record_of limit (onward p h f x).mail) (λ (n : ℕ). hand_over limit k (record_of limit (onward p h f x).mail) (drop n f)) ≡ fed_of limit (read_as (λ (q : ℕ) (v : List ℕ). read_on limit (length (h ++ f)) q v) p (h ++ f) x)
    joined_by (Err Cut) q = refl
    joined_by (Err Groups) q = refl
    joined_by (Err Kind) q = refl
    joined_by (Err Size) q = refl
    joined_by (Ok d) q =
        let n = next_within limit z (h ++ f) bytes d q in
        let o = takes_some limit z h f bytes d c q in
        let a = length-append h f in
        let i : d.next ≡ length h + (d.next - length h) = omega arith in
        let t : drop d.next (h ++ f) ≡ drop (d.next - length h) f = ap (λ (j : ℕ). drop j (h ++ f)) i ∙
        drop-append-add h f (d.next - length h) in
        let l : length (drop (d.next - length h) f) ≡ length f - (d.next - length h) = length-drop (d.next - length h) f in
        let v : AllBytes (drop (d.next - length h) f) = bytes_drop (d.next - length h) f (bytes_back h f bytes) in
        let s = length-take-le d.next (h ++ f) n in
        let g : Good limit (whole p (take d.next (h ++ f))) = (omega (arith, next_largest limit z (h ++ f) bytes d q), good) in
        let r = hand_rest k p (take d.next (h ++ f)) (drop (d.next - length h) f)
        (ih (whole p (take d.next (h ++ f))) (drop (d.next - length h) f) g v (omega arith)) (length (h ++ f))
        (omega arith) (omega arith) v in
        rw (content_held p (h ++ f) bytes d q, r, t)

    joined_step : hand_over limit (suc k) b f ≡ fed_of limit (read_all limit p (h ++ f))
    unfolding joined
    joined_step = hand_step k b f (joined limit p h f) e ∙ (joined_by (envelope_at limit (h ++ f) 0) refl ∙ ap
        (fed_of limit) (sym (read_on_is limit (length (h ++ f)) p (h ++ f))))

  pub hand_one : (k : ℕ) (m : Mail) (f : List ℕ) → Good limit m → AllBytes f → length f < k
      → hand_over limit k (record_of limit m) f ≡ fed_of limit (follow limit m f)
  hand_one zero m f g b l = absurd (omega arith)
  hand_one (suc k) (part p h) f g b l =
      joined_step k p (record_of limit (part p h)) h f g.0 (bytes_append h f g.1 b) (omega arith)
      (take_held p h f g b)
      (λ (m : Mail) (v : List ℕ) (q : Good limit m) (a : AllBytes v) (s : length v < k). hand_one k m v q a s)
      g.2
  hand_one (suc k) (whole p h) [] g b l = hand_on k (record_of limit (whole p h)) [] ∙ rw (take_nothing p h g)
  hand_one (suc k) (whole p h) (x ∷ xs) g b l =
      joined_step k (later p (length h)) (record_of limit (whole p h)) [] (x ∷ xs) (none_open limit) b (omega arith)
      (take_behind p h (x ∷ xs) g b (λ (q : length (x ∷ xs) ≡ 0). omega arith))
      (λ (m : Mail) (v : List ℕ) (q : Good limit m) (a : AllBytes v) (s : length v < k). hand_one k m v q a s)
      (omega arith)
  hand_one (suc k) (refused r p) f g b l = hand_on k (record_of limit (refused r p)) f ∙ rw (take_refused r p f g)

  -- ---- all fragments

  pub hand_all_is : (m : Mail) (fs : List (List ℕ)) → Good limit m → AllBytes (joined_up fs)
      → hand_all limit (record_of limit m) fs ≡ fed_of limit (follow_all limit m fs)
  unfolding hand_all joined_up follow_all
  hand_all_is m [] g b = refl
  hand_all_is m (f ∷ fs) g b =
      let c = bytes_front f (joined_up fs) b in
      rw (
        hand_one (suc (length f)) m f g c (omega arith),
        hand_all_is (follow limit m f).mail fs
            (good_follow limit z m f g c) (bytes_back f (joined_up fs) b),
      )

  pub good_fresh : Good limit fresh
  good_fresh = (none_open limit, λ (k : ℕ). omega arith, omega arith)

  read_none : read_all limit 0 [] ≡ told [] fresh
  read_none = read_on_is limit 0 0 [] ∙ rw (none_open limit)

  -- the theorem
  pub every_cut : (fs : List (List ℕ)) → AllBytes (joined_up fs) → hand_all limit (record_of limit fresh) fs ≡ whole_read limit (joined_up fs)
  every_cut fs b =
      let r : read_all limit 0 (joined_up fs) ≡ onto (read_all limit 0 []).envelopes
      (follow_all limit (read_all limit 0 []).mail fs) = read_all_is limit z [] fs (λ (k : ℕ). omega arith) b in
      let q : read_all limit 0 (joined_up fs) ≡ follow_all limit fresh fs = rw read_none at r in
      hand_all_is fresh fs good_fresh b ∙ ap (fed_of limit) (sym q ∙ whole_read_is limit z (joined_up fs) b)

  -- two ways of cutting a string
  pub cut_alike : (fs gs : List (List ℕ)) → AllBytes (joined_up fs) → joined_up fs ≡ joined_up gs
      → hand_all limit (record_of limit fresh) fs ≡ hand_all limit (record_of limit fresh) gs
  cut_alike fs gs b e = every_cut fs b ∙ (rw e (sym (every_cut gs (rw e at b))))

  -- ---- the end

  pub whole_mail_is : (s : List ℕ) → whole_mail limit s ≡ leaves s fresh 0 (walk limit s).envelopes (walk limit s).ending
  unfolding whole_mail
  whole_mail_is s = refl

  -- nothing is unfinished
  pub data Quiet : Mail → Type 0 where
    none : {p : ℕ} → Quiet (part p [])
    done : {p : ℕ} {h : List ℕ} → Quiet (whole p h)

  pub leaves_quiet : (s : List ℕ) (es : List Envelope) (m : Mail) (at n : ℕ) → Quiet m → Quiet (leaves s m at es (ended n))
  unfolding leaves
  leaves_quiet s [] m at n q = q
  leaves_quiet s (e ∷ es) m at n q = leaves_quiet s es (whole (min at top) (take (e.next - at) (drop at s))) e.next n done

  pub leaves_stopped : (s : List ℕ) (es : List Envelope) (m : Mail) (at : ℕ) (r : EnvelopeRefusal) (n : ℕ)
      → leaves s m at es (stopped r n) ≡ stopped_at s r n
  unfolding leaves
  leaves_stopped s [] m at r n = refl
  leaves_stopped s (e ∷ es) m at r n = leaves_stopped s es (whole (min at top) (take (e.next - at) (drop at s))) e.next r n

  end_quiet : (m : Mail) → Quiet m → Good limit m → end_at limit (record_of limit m) ≡ after (Ok (taken.Part 0)) (record_of limit m)
  unfolding end_at loaded_by cut_short
  end_quiet (part p h) none g = rw (loads (part p []) g)
  end_quiet (whole p h) done g = rw (loads (whole p h) g)
  end_quiet (refused r p) q g = elim q [ ]

  end_cut : (p x : ℕ) (xs : List ℕ) → Good limit (part p (x ∷ xs))
      → end_at limit (record_of limit (part p (x ∷ xs))) ≡ after (Err (untaken.Refused Cut)) (record_of limit (refused Cut p))
  unfolding end_at loaded_by cut_short
  end_cut p x xs g =
      rw (
        loads (part p (x ∷ xs)) g,
        ne_eqb (length (x ∷ xs)) 0 (λ (q : length (x ∷ xs) ≡ 0). omega arith),
        held_record
            limit (part p (x ∷ xs)) (fits (part p (x ∷ xs)) g),
        is_open limit (x ∷ xs) g.0,
      )

  end_refused : (r : EnvelopeRefusal) (p : ℕ) → Good limit (refused r p)
      → end_at limit (record_of limit (refused r p)) ≡ after (Err (untaken.Refused r)) (record_of limit (refused r p))
  unfolding end_at loaded_by
  end_refused Cut p g = rw (loads (refused Cut p) g)
  end_refused Groups p g = rw (loads (refused Groups p) g)
  end_refused Kind p g = rw (loads (refused Kind p) g)
  end_refused Size p g = rw (loads (refused Size p) g)

  -- a refused envelope begins within the string
  stopped_within : (s : List ℕ) (at : ℕ) (w : Walk) → Says limit s at w → (r : EnvelopeRefusal) (n : ℕ)
      → w.ending ≡ stopped r n → n < length s
  stopped_within s at w (Says-All cs f d) r n e = let o : ◌≡◌ {A = ℕ} 0 1 = cc in absurd (omega arith)
  stopped_within s at w (says-part cs t q f d h p) r n e = let o : n ≡ at + length (string_of cs) = cc in omega arith

  end_stopped : (s : List ℕ) (r : EnvelopeRefusal) (n : ℕ) → n < length s → Good limit (stopped_at s r n)
      → end_at limit (record_of limit (stopped_at s r n)) ≡ after (Err (untaken.Refused r)) (record_of limit (refused r (min n top)))
  end_stopped s Cut n h g = by (drop n s) (length-drop n s) g
    where
      by : (v : List ℕ) → length v ≡ length s - n → Good limit (part (min n top) v)
          → end_at limit (record_of limit (part (min n top) v)) ≡ after (Err (untaken.Refused Cut)) (record_of limit (refused Cut (min n top)))
      by [] l k = absurd (omega arith)
      by (x ∷ xs) l k = end_cut (min n top) x xs k
  end_stopped s Groups n h g = end_refused Groups (min n top) g
  end_stopped s Kind n h g = end_refused Kind (min n top) g
  end_stopped s Size n h g = end_refused Size (min n top) g

  pub good_whole : (s : List ℕ) → AllBytes s → Good limit (whole_mail limit s)
  good_whole s b = subst (λ (t : Told). Good limit t.mail) (whole_read_is limit z s b)
      (good_read limit z (suc (length s)) 0 s b (omega arith) (omega arith))

  pub ended_as_whole : (s : List ℕ) → AllBytes s
      → end_at limit (record_of limit (whole_mail limit s)) ≡ whole_end limit s (walk limit s).ending
  ended_as_whole s b = by (walk limit s).ending refl
    where
      mail_is : (x : Ending) → (walk limit s).ending ≡ x → whole_mail limit s ≡ leaves s fresh 0 (walk limit s).envelopes x
      mail_is x e = whole_mail_is s ∙ rw e

      by : (x : Ending) → (walk limit s).ending ≡ x → end_at limit (record_of limit (whole_mail limit s)) ≡ whole_end limit s x
      by (ended n) e = end_quiet (whole_mail limit s)
          (rw (mail_is (ended n) e) (leaves_quiet s (walk limit s).envelopes fresh 0 n none)) (good_whole s b)
      by (stopped r n) e =
          let m : whole_mail limit s ≡ stopped_at s r n = mail_is (stopped r n) e ∙ leaves_stopped s (walk limit s).envelopes fresh 0 r n in
          let g : Good limit (stopped_at s r n) = subst (λ (y : Mail). Good limit y) m (good_whole s b) in
          rw m (end_stopped s r n (stopped_within s 0 (walk limit s) (every_string limit s b) r n e) g)

-- ---- today's limit

pub every_cut_today : (fs : List (List ℕ)) → AllBytes (joined_up fs)
    → hand_all most_bits (record_of most_bits fresh) fs ≡ whole_read most_bits (joined_up fs)
every_cut_today fs b = every_cut most_bits sized fs b
