-- What the loop keeps that puts a fragment behind what is held, and its ways out.
-- Assumes nothing.
use mathlib.Core.Path.{◌≡◌, refl, ap, sym, ◌∙◌}
use mathlib.Core.Bool.{Bool, true, false}
use mathlib.Core.List.{List, ◌++◌, append_assoc, append-nil}
use Prim.Native.Nat.{ℕ, ◌+◌, ◌-◌, ◌≤◌, ◌<◌}
use native.Mathlib.Omega.{arith}
use lib.ListN.{length, take, drop, length-append, length-drop, take-append-drop}
use lib.Seq.{sets, length-sets, take-add, take_at, take-append-add, take_all, length-take-le}
use Rattle.envelope.specs.Envelopes.{envelope_at, largest}
use Rattle.envelope.specs.declared.EnvelopeRefusal.{EnvelopeRefusal}
use Rattle.envelope.specs.declared.EnvelopeRefusal.TheVariants.{Cut, Groups, Kind, Size}
use Rattle.envelope.specs.declared.Envelope.{Envelope}
use Rattle.envelope.proofs.Numbers.{AllBytes}
use Rattle.envelope.proofs.Puts.{sets_append}
use Rattle.envelope.proofs.Longer.{envelope_stays}
use Rattle.fragments.specs.declared.Taken.TheVariants as taken
use Rattle.fragments.specs.declared.Untaken.TheVariants as untaken
use Rattle.fragments.specs.Mail.{Taking, refused, is_cut, unfinished, head, in_record, joined}
use Rattle.fragments.specs.Missing.{missing}
use Rattle.fragments.specs.Record.{record_bytes, head_at, held_in, record_of, after, laid, kept, resumed}
use Rattle.fragments.proofs.Ranges.{padded_none, sets_behind, drop_sets, bytes_append, bytes_take, bytes_held}
use Rattle.fragments.proofs.Unfinished.{Sized, lacks, still_cut, takes_all, body_next, cut_of}
use Rattle.std.specs.Prelude.{Err, Ok, Result}

is_live : (e : Envelope) → ◌≡◌ {A = Result Envelope EnvelopeRefusal} (Ok e) (Err Cut) → ⊥
is_live e q = let o : ◌≡◌ {A = ℕ} 0 1 = cc in omega arith

pub not_cut : (r : EnvelopeRefusal) (t : Bool) → t ≡ is_cut r → t ≡ false → r ≡ Cut → ⊥
not_cut r t e h p = let o : t ≡ true = e ∙ rw p in let q : t ≡ false = h in let z : ◌≡◌ {A = ℕ} 0 1 = cc in omega arith

pub cut_is : (r : EnvelopeRefusal) → is_cut r ≡ true → r ≡ Cut
cut_is Cut e = refl
cut_is Groups e = let z : ◌≡◌ {A = ℕ} 0 1 = cc in absurd (omega arith)
cut_is Kind e = let z : ◌≡◌ {A = ℕ} 0 1 = cc in absurd (omega arith)
cut_is Size e = let z : ◌≡◌ {A = ℕ} 0 1 = cc in absurd (omega arith)

pub cut_not : (r : EnvelopeRefusal) → (r ≡ Cut → ⊥) → is_cut r ≡ false
cut_not Cut h = absurd (h refl)
cut_not Groups h = refl
cut_not Kind h = refl
cut_not Size h = refl

refused_live : (r : EnvelopeRefusal) → (r ≡ Cut → ⊥) → ◌≡◌ {A = Result Envelope EnvelopeRefusal} (Err r) (Err Cut) → ⊥
refused_live r h q = h (cc)

-- i bytes of f are put behind the n that were held
pub record Resuming (limit : ℕ) (b₀ b f : List ℕ) (n m i lack : ℕ) : Type 0 where
  pub count : m ≡ n + i
  pub within : i ≤ length f
  pub same : length b ≡ length b₀
  pub bytes : b ≡ sets b₀ (head + n) (take i f)
  pub live : envelope_at limit (held_in n b₀ ++ take i f) 0 ≡ Err Cut
  pub lacking : lack ≡ missing (held_in n b₀ ++ take i f)

-- it lacks a byte at least, and there is room for those that it lacks
pub record Room (limit : ℕ) (b : List ℕ) (m lack : ℕ) : Type 0 where
  pub some : 0 < lack
  pub most : m + lack ≤ largest limit
  pub long : head + m + lack ≤ length b
  pub now : head + m ≤ length b

module _ (limit : ℕ) (b₀ f : List ℕ) (n : ℕ) (room : head + n ≤ length b₀) where
  length_held : length (held_in n b₀) ≡ n
  length_held = length-take-le n (drop head b₀) (rw (length-drop head b₀) (omega arith))

  length_so_far : (i : ℕ) → i ≤ length f → length (held_in n b₀ ++ take i f) ≡ n + i
  length_so_far i h = length-append (held_in n b₀) (take i f) ∙ omega (arith, length_held, length-take-le i f h)

  -- what is held then
  held_then : (i : ℕ) (b : List ℕ) → i ≤ length f → head + (n + i) ≤ length b₀ → b ≡ sets b₀ (head + n) (take i f)
      → held_in (n + i) b ≡ held_in n b₀ ++ take i f
  held_then i b h g e =
      let l = length_so_far i h in
      let s : b ≡ sets b₀ head (held_in n b₀ ++ take i f) = e ∙ sym (sets_behind b₀ head n (take i f) room) in
      let d : drop head b ≡ (held_in n b₀ ++ take i f) ++ drop (head + length (held_in n b₀ ++ take i f)) b₀ = rw s
      (drop_sets b₀ head (held_in n b₀ ++ take i f) (rw l g)) in
      rw d (take_at (held_in n b₀ ++ take i f) (drop (head + length (held_in n b₀ ++ take i f)) b₀) (n + i) l)

  -- the bytes that were put, and those behind them
  further : (i k : ℕ) → (held_in n b₀ ++ take i f) ++ take k (drop i f) ≡ held_in n b₀ ++ take (i + k) f
  further i k = append_assoc (held_in n b₀) (take i f) (take k (drop i f)) ∙ ap (λ (r : List ℕ). held_in n b₀ ++ r) (sym (take-add i k f))

  -- with the rest of the fragment it is what is held and the fragment
  all_of : (i : ℕ) → (held_in n b₀ ++ take i f) ++ drop i f ≡ held_in n b₀ ++ f
  all_of i = append_assoc (held_in n b₀) (take i f) (drop i f) ∙ ap (λ (r : List ℕ). held_in n b₀ ++ r) (take-append-drop i f)

  put_on : (i k : ℕ) (b z : List ℕ) → i ≤ length f → b ≡ sets b₀ (head + n) (take i f)
      → z ≡ sets b (head + (n + i)) (take k (drop i f)) → z ≡ sets b₀ (head + n) (take (i + k) f)
  put_on i k b z h e g =
      let o : head + n + length (take i f) ≡ head + (n + i) = omega (arith, length-take-le i f h) in
      let s : sets b₀ (head + n) (take (i + k) f) ≡ sets (sets b₀ (head + n) (take i f)) (head + (n + i))
      (take k (drop i f)) = rw (take-add i k f, ← o) (sets_append b₀ (head + n) (take i f) (take k (drop i f))) in
      rw (s, ← e) g

  -- ---- the loop

  pub resuming_none : (lack : ℕ) → unfinished limit (held_in n b₀) ≡ true → lack ≡ missing (held_in n b₀) → Resuming limit b₀ b₀ f n n 0 lack
  resuming_none lack u e =
      record {
        count = omega arith;
        within = omega arith;
        same = refl;
        bytes = refl;
        live = rw (append-nil (held_in n b₀)) (cut_of limit (held_in n b₀) u);
        lacking = rw (append-nil (held_in n b₀)) e;
      }

  module _ (z : Sized limit) (size : length b₀ ≡ record_bytes limit) (bytes₀ : AllBytes b₀) (bytes-f : AllBytes f) (b : List ℕ) (m i lack : ℕ) (r : Resuming limit b₀ b f n m i lack) where
    all_bytes : (j : ℕ) → AllBytes (held_in n b₀ ++ take j f)
    all_bytes j = bytes_append (held_in n b₀) (take j f) (bytes_held n b₀ bytes₀) (bytes_take j f bytes-f)

    pub has_room : Room limit b m lack
    has_room =
        let l = lacks limit z (held_in n b₀ ++ take i f) (all_bytes i) r.live in
        let e = length_so_far i r.within in
        record { some = omega (arith, r.lacking, l.some); most = omega (arith, r.lacking, r.count, l.room); long = omega (arith, r.lacking, r.count, l.room, r.same); now = omega (arith, r.lacking, r.count, l.room, r.same) }

    pub holds_now : held_in m b ≡ held_in n b₀ ++ take i f
    holds_now =
        let o = has_room in
        rw r.count (held_then i b r.within (omega (arith, o.now, r.same, r.count)) r.bytes)

    pub put_fits : lack ≤ length f - i → head + m + length (take (i + lack - i) (drop i f)) ≤ length b
    put_fits fits =
        let e : i + lack - i ≡ lack = omega arith in
        let d : length (drop i f) ≡ length f - i = length-drop i f in
        rw (e, length-take-le lack (drop i f) (omega arith)) has_room.long

    all_left : take (length f - i) (drop i f) ≡ drop i f
    all_left = take_all (length f - i) (drop i f) (omega (arith, length-drop i f))

    pub rest_fits : length f - i < lack → head + m + length (take (length f - i) (drop i f)) ≤ length b
    rest_fits fits = rw (all_left, length-drop i f) (omega (arith, has_room.long))

    -- so many bytes more are put
    module _ (y : List ℕ) (fits : lack ≤ length f - i) (put : y ≡ sets b (head + m) (take (i + lack - i) (drop i f))) where
      on : y ≡ sets b₀ (head + n) (take (i + lack) f)
      on = let e : i + lack - i ≡ lack = omega arith in put_on i lack b y r.within r.bytes (rw (e, r.count) at put)

      pub length_on : length y ≡ length b
      length_on = ap length put ∙ length-sets b (head + m) (take (i + lack - i) (drop i f))

      pub holds_next : held_in (m + lack) y ≡ held_in n b₀ ++ take (i + lack) f
      holds_next =
          let o = has_room in
          let e : m + lack ≡ n + (i + lack) = omega (arith, r.count) in
          rw e (held_then (i + lack) y (omega (arith, r.within)) (omega (arith, o.long, r.same, r.count)) on)

      pub still_open : (x : Result Envelope EnvelopeRefusal) (q : EnvelopeRefusal)
          → x ≡ envelope_at limit (held_in (m + lack) y) 0 → x ≡ Err q → q ≡ Cut
          → envelope_at limit (held_in (m + lack) y) 0 ≡ Err Cut
      still_open x q g h k = sym g ∙ (h ∙ ap Err k)

      pub resuming_more : (k : ℕ) → envelope_at limit (held_in (m + lack) y) 0 ≡ Err Cut
          → k ≡ missing (held_in (m + lack) y) → Resuming limit b₀ y f n (m + lack) (i + lack) k
      resuming_more k e g =
          record {
            count = omega (arith, r.count);
            within = omega (arith, r.within);
            same = length_on ∙ r.same;
            bytes = on;
            live = rw holds_next at e;
            lacking = rw holds_next at g;
          }

      whole_stays : (x : Result Envelope EnvelopeRefusal) → (x ≡ Err Cut → ⊥) → envelope_at limit (held_in (m + lack) y) 0 ≡ x
          → envelope_at limit (held_in n b₀ ++ f) 0 ≡ x
      whole_stays x live e =
          rw (all_of (i + lack)) at (envelope_stays (held_in n b₀ ++ take (i + lack) f) (drop (i + lack) f) x live limit
          0 (rw holds_next at e))

      -- an envelope is finished by the last of them
      pub finished : (e : Envelope) → envelope_at limit (held_in (m + lack) y) 0 ≡ Ok e → e.next ≡ m + lack
      finished e p =
          let q : envelope_at limit ((held_in n b₀ ++ take i f) ++ take lack (drop i f)) 0 ≡ Ok e = rw (further i lack, ← holds_next) p in
          let d : length (drop i f) ≡ length f - i = length-drop i f in
          let k : length (take lack (drop i f)) ≡ lack = length-take-le lack (drop i f) (omega arith) in
          let a : AllBytes ((held_in n b₀ ++ take i f) ++ take lack (drop i f)) = rw (further i lack) (all_bytes (i + lack)) in
          let t = takes_all limit z (held_in n b₀ ++ take i f) (take lack (drop i f)) a e r.live q (omega (arith, r.lacking)) in
          omega (arith, t, length-append (held_in n b₀ ++ take i f) (take lack (drop i f)), length_so_far i r.within, r.count)

      pub whole_fits : (x : Result Envelope EnvelopeRefusal) (e : Envelope) → x ≡ envelope_at limit (held_in (m + lack) y) 0 → x ≡ Ok e
          → (e.body ≤ largest limit) × (e.next ≤ largest limit)
      whole_fits x e q g =
          let s : envelope_at limit (held_in (m + lack) y) 0 ≡ Ok e = sym q ∙ g in
          let t = finished e s in
          let o = body_next limit z (held_in (m + lack) y) (rw holds_next (all_bytes (i + lack))) e s in
          (omega (arith, has_room.most), omega (arith, has_room.most))

      pub resume_whole : (p : ℕ) (w : List ℕ) (x : Result Envelope EnvelopeRefusal) (e c : Envelope)
          → unfinished limit (held_in n b₀) ≡ true → x ≡ envelope_at limit (held_in (m + lack) y) 0 → x ≡ Ok e
          → w ≡ sets y 0 (head_at 1 (m + lack) p) → c ≡ in_record e
          → after (Ok (taken.Whole c (i + lack))) w ≡ resumed limit b₀ n p f
      unfolding resumed joined kept laid
      resume_whole p w x e c u q g h k =
          let s : envelope_at limit (held_in (m + lack) y) 0 ≡ Ok e = sym q ∙ g in
          let t = finished e s in
          let l = length_held in
          let o : e.next ≡ length (held_in n b₀) + (i + lack) = omega (arith, r.count) in
          let v : take e.next (held_in n b₀ ++ f) ≡ held_in n b₀ ++ take (i + lack) f = ap
          (λ (j : ℕ). take j (held_in n b₀ ++ f)) o ∙ take-append-add (held_in n b₀) f (i + lack) in
          let a = length_so_far (i + lack) (omega (arith, r.within)) in
          let d : e.next - length (held_in n b₀) ≡ i + lack = omega arith in
          let j : m + lack ≡ n + (i + lack) = omega (arith, r.count) in
          rw (
            u,
            whole_stays (Ok e) (is_live e) s,
            v,
            d,
            padded_none n (held_in n b₀ ++ take (i + lack) f) (omega arith),
            sets_behind b₀ head n (take (i + lack) f) room,
            ← on,
            a,
            ← j,
            ← h,
            ← k,
          )

      pub resume_refused : (p : ℕ) (w : List ℕ) (x : Result Envelope EnvelopeRefusal) (q : EnvelopeRefusal) (o : Taking)
          → unfinished limit (held_in n b₀) ≡ true → x ≡ envelope_at limit (held_in (m + lack) y) 0 → x ≡ Err q
          → (q ≡ Cut → ⊥) → after o w ≡ after (Err (untaken.Refused q)) (record_of limit (refused q p))
          → after o w ≡ resumed limit b₀ n p f
      unfolding resumed joined kept
      resume_refused p w x q o u g h k e =
          e ∙ rw (u, whole_stays (Err q) (refused_live q k) (sym g ∙ h), cut_not q k)

    -- the rest of the fragment is put, and it is unfinished still
    pub resume_part : (p : ℕ) (y w : List ℕ) → unfinished limit (held_in n b₀) ≡ true → length f - i < lack
        → y ≡ sets b (head + m) (take (length f - i) (drop i f)) → w ≡ sets y 0 (head_at 0 (n + length f) p)
        → after (Ok (taken.Part (length f))) w ≡ resumed limit b₀ n p f
    unfolding resumed joined kept laid
    resume_part p y w u g h k =
        let d : length (drop i f) ≡ length f - i = length-drop i f in
        let s : envelope_at limit (held_in n b₀ ++ f) 0 ≡ Err Cut = rw (all_of i) at
        (still_cut limit (held_in n b₀ ++ take i f) (drop i f) r.live (omega (arith, r.lacking))) in
        let l = length_held in
        let a : length (held_in n b₀ ++ f) ≡ n + length f = length-append (held_in n b₀) f ∙ omega arith in
        let v : take (i + (length f - i)) f ≡ f = take_all (i + (length f - i)) f (omega arith) in
        let q : y ≡ sets b₀ (head + n) f = put_on i (length f - i) b y r.within r.bytes (rw r.count at h) ∙ rw v in
        rw (u, s, padded_none n (held_in n b₀ ++ f) (omega arith), sets_behind b₀ head n f room, ← q, a, ← k)

pub resume_shape : (limit : ℕ) (b f : List ℕ) (n p : ℕ) (t : Bool) → t ≡ unfinished limit (held_in n b) → t ≡ false
    → after (Err untaken.Shape) b ≡ resumed limit b n p f
unfolding resumed
resume_shape limit b f n p t e h = rw (← e, h)
