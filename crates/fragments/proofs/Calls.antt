-- The ways out of the calls, as the code has them.
-- Assumes nothing.
use mathlib.Core.Path.{◌≡◌, refl, ap, sym, ◌∙◌}
use mathlib.Core.Bool.{Bool, true, false, cond}
use mathlib.Core.List.{List, []}
use Prim.Native.Nat.{ℕ, ◌+◌, ◌-◌, ◌≤◌}
use native.Mathlib.Omega.{arith}
use lib.Dec.{eqb, lit<}
use lib.ListN.{length, take, get_or}
use lib.Seq.{sets, length-take-le}
use borrow.Author.Tests.{eq-eqb, ne_eqb}
use Rattle.envelope.specs.Envelopes.{envelope_at, largest, most_bits}
use Rattle.envelope.specs.declared.EnvelopeRefusal.{EnvelopeRefusal}
use Rattle.envelope.specs.declared.EnvelopeRefusal.TheVariants.{Cut, Groups, Kind, Size}
use Rattle.envelope.specs.declared.Envelope.{Envelope}
use Rattle.envelope.proofs.Numbers.{AllBytes}
use Rattle.envelope.proofs.Sizes.{largest_is}
use Rattle.fragments.specs.declared.Taken.TheVariants as taken
use Rattle.fragments.specs.declared.Untaken.TheVariants as untaken
use Rattle.fragments.specs.declared.stored.Loaded.TheVariants as loaded
use Rattle.fragments.specs.Mail.{Taking, Mail, part, whole, refused, is_cut, unfinished, head, in_record, step, onward, joined, later}
use Rattle.fragments.specs.Record.{Loading, record_bytes, head_at, held_of, held_in, zeros, record_of, count_in, place_in, loaded_by, load_at, After, after, laid, keep, kept, resumed, begun, take_at, cut_short, end_at}
use Rattle.fragments.proofs.Ranges.{padded_none, zeros_over}
use Rattle.fragments.proofs.Unfinished.{Sized, lacks, next_within, next_largest, none_open, is_open}
use Rattle.fragments.proofs.Storing.{loads}
use Rattle.fragments.proofs.Resuming.{cut_not}
use Rattle.std.specs.Prelude.{Err, Ok, Result}

-- ---- the limit of today

pub sized : Sized most_bits
sized = record { small = lit< tt; least = omega (arith, largest_is); most = omega (arith, largest_is) }

-- ---- with nothing held

module _ (limit : ℕ) (b f : List ℕ) (p : ℕ) (x : Result Envelope EnvelopeRefusal) (e : x ≡ envelope_at limit f 0) where
  pub begin_whole : (c d : Envelope) (y z : List ℕ) → x ≡ Ok c → c.next ≤ length f → y ≡ sets b head (take c.next f)
      → z ≡ sets y 0 (head_at 1 c.next p) → d ≡ in_record c
      → after (Ok (taken.Whole d c.next)) z ≡ kept limit 0 b (joined limit p [] f)
  unfolding joined kept laid
  begin_whole c d y z q l g h k =
      let o : c.next - 0 ≡ c.next = omega arith in
      rw (← e, q, o, padded_none 0 (take c.next f) (omega arith), ← g, length-take-le c.next f l, ← h, ← k)

  pub begin_part : (r : EnvelopeRefusal) (y z : List ℕ) → x ≡ Err r → r ≡ Cut
      → y ≡ sets b head f → z ≡ sets y 0 (head_at 0 (length f) p)
      → after (Ok (taken.Part (length f))) z ≡ kept limit 0 b (joined limit p [] f)
  unfolding joined kept laid
  begin_part r y z q k g h = rw (← e, q, k, padded_none 0 f (omega arith), ← g, ← h)

  pub begin_refused : (r : EnvelopeRefusal) (a : Taking) (z : List ℕ) → x ≡ Err r → (r ≡ Cut → ⊥) → after a z ≡ after (Err (untaken.Refused r)) (record_of limit (refused r p))
      → after a z ≡ kept limit 0 b (joined limit p [] f)
  unfolding joined kept
  begin_refused r a z q k g = g ∙ rw (← e, q, cut_not r k)

pub begin_cut : (limit : ℕ) (f : List ℕ) (x : Result Envelope EnvelopeRefusal) (r : EnvelopeRefusal) → x ≡ envelope_at limit f 0
    → x ≡ Err r → r ≡ Cut → envelope_at limit f 0 ≡ Err Cut
begin_cut limit f x r e q k = sym e ∙ (q ∙ ap Err k)

-- ---- zeros over what was finished, and then from nothing

kept_mail : (limit n : ℕ) (b z : List ℕ) (m : Mail) → head + n ≤ length b → z ≡ sets b head (zeros n)
    → head + length (held_of m) ≤ length b → laid 0 z m ≡ laid n b m
unfolding laid
kept_mail limit n b z m h e g = rw (padded_none 0 (held_of m) (omega arith), e, zeros_over b head n (held_of m) h g)

keep_zeroed : (limit n : ℕ) (b z : List ℕ) (m : Mail) → head + n ≤ length b → z ≡ sets b head (zeros n)
    → head + length (held_of m) ≤ length b → keep limit 0 z m ≡ keep limit n b m
keep_zeroed limit n b z (part p h) k e g = kept_mail limit n b z (part p h) k e g
keep_zeroed limit n b z (whole p h) k e g = kept_mail limit n b z (whole p h) k e g
keep_zeroed limit n b z (refused r p) k e g = refl

-- what is held after a fragment fits
joined_fits : (limit : ℕ) → Sized limit → (p : ℕ) (f : List ℕ) → AllBytes f → length (held_of (joined limit p [] f).mail) ≤ largest limit
unfolding joined
joined_fits limit z p f b = go (envelope_at limit f 0) refl
  where
    cut : (r : EnvelopeRefusal) → envelope_at limit f 0 ≡ Err r
        → length (held_of (cond (is_cut r) (step (Ok (taken.Part (length f))) (part p f)) (step (Err (untaken.Refused r)) (refused r p))).mail) ≤ largest limit
    cut Cut e = omega (arith, (lacks limit z f b e).room)
    cut Groups e = omega arith
    cut Kind e = omega arith
    cut Size e = omega arith

    go : (x : Result Envelope EnvelopeRefusal) → envelope_at limit f 0 ≡ x → length (held_of (onward p [] f x).mail) ≤ largest limit
    go (Ok c) e = omega (arith, length-take-le c.next f (next_within limit z f b c e), next_largest limit z f b c e)
    go (Err r) e = cut r e

module _ (limit : ℕ) (z : Sized limit) (b f : List ℕ) (n p : ℕ) (size : length b ≡ record_bytes limit) (count : n ≤ largest limit) (bytes : AllBytes f) where
  pub begun_none : length f ≡ 0 → after (Ok (taken.Part 0)) b ≡ begun limit b n p f
  unfolding begun
  begun_none h = rw (eq-eqb (length f) 0 h)

  pub begun_more : (y w : List ℕ) (q : ℕ) (a : Taking) → (length f ≡ 0 → ⊥) → y ≡ sets b head (zeros n) → q ≡ later p n
      → after a w ≡ kept limit 0 y (joined limit q [] f) → after a w ≡ begun limit b n p f
  unfolding begun kept
  begun_more y w q a h e g k =
      k ∙ rw (
        ne_eqb (length f) 0 h,
        g,
        keep_zeroed limit n b y (joined limit (later p n) [] f).mail (omega arith) e
            (omega (arith, joined_fits limit z (later p n) f bytes)),
      )

  pub resume_none : (w : List ℕ) (a : Taking) → n ≡ 0 → after a w ≡ kept limit 0 b (joined limit p [] f) → after a w ≡ resumed limit b n p f
  unfolding resumed
  resume_none w a h k = k ∙ rw (h, is_open limit [] (none_open limit))

-- ---- what was loaded

part_count : (t₀ t₁ t₂ t₃ t₄ t₅ : Bool) (k q n p : ℕ)
    → cond t₀ (Ok (loaded.Part k q)) (cond t₁ (Ok (loaded.Whole k q)) (cond t₂ (Err (untaken.Refused Cut)) (cond t₃ (Err (untaken.Refused Groups)) (cond t₄ (Err (untaken.Refused Kind)) (cond t₅ (Err (untaken.Refused Size)) (Err untaken.Shape)))))) ≡ Ok (loaded.Part n p)
    → n ≡ k
part_count true t₁ t₂ t₃ t₄ t₅ k q n p e = cc
part_count false true t₂ t₃ t₄ t₅ k q n p e = let z : ◌≡◌ {A = ℕ} 0 1 = cc in absurd (omega arith)
part_count false false true t₃ t₄ t₅ k q n p e = let z : ◌≡◌ {A = ℕ} 0 1 = cc in absurd (omega arith)
part_count false false false true t₄ t₅ k q n p e = let z : ◌≡◌ {A = ℕ} 0 1 = cc in absurd (omega arith)
part_count false false false false true t₅ k q n p e = let z : ◌≡◌ {A = ℕ} 0 1 = cc in absurd (omega arith)
part_count false false false false false true k q n p e = let z : ◌≡◌ {A = ℕ} 0 1 = cc in absurd (omega arith)
part_count false false false false false false k q n p e = let z : ◌≡◌ {A = ℕ} 0 1 = cc in absurd (omega arith)

whole_count : (t₀ t₁ t₂ t₃ t₄ t₅ : Bool) (k q n p : ℕ)
    → cond t₀ (Ok (loaded.Part k q)) (cond t₁ (Ok (loaded.Whole k q)) (cond t₂ (Err (untaken.Refused Cut)) (cond t₃ (Err (untaken.Refused Groups)) (cond t₄ (Err (untaken.Refused Kind)) (cond t₅ (Err (untaken.Refused Size)) (Err untaken.Shape)))))) ≡ Ok (loaded.Whole n p)
    → n ≡ k
whole_count true t₁ t₂ t₃ t₄ t₅ k q n p e = let z : ◌≡◌ {A = ℕ} 0 1 = cc in absurd (omega arith)
whole_count false true t₂ t₃ t₄ t₅ k q n p e = cc
whole_count false false true t₃ t₄ t₅ k q n p e = let z : ◌≡◌ {A = ℕ} 0 1 = cc in absurd (omega arith)
whole_count false false false true t₄ t₅ k q n p e = let z : ◌≡◌ {A = ℕ} 0 1 = cc in absurd (omega arith)
whole_count false false false false true t₅ k q n p e = let z : ◌≡◌ {A = ℕ} 0 1 = cc in absurd (omega arith)
whole_count false false false false false true k q n p e = let z : ◌≡◌ {A = ℕ} 0 1 = cc in absurd (omega arith)
whole_count false false false false false false k q n p e = let z : ◌≡◌ {A = ℕ} 0 1 = cc in absurd (omega arith)

-- the range is a record, and so many bytes are held
pub record Holds (limit : ℕ) (b : List ℕ) (n : ℕ) : Type 0 where
  pub size : length b ≡ record_bytes limit
  pub count : n ≤ largest limit

module _ (limit : ℕ) (b : List ℕ) (x : Loading) (e : x ≡ load_at limit b) where
  pub holds_part : (n p : ℕ) → x ≡ Ok (loaded.Part n p) → Holds limit b n
  unfolding loaded_by
  holds_part n p q =
      let l = loads limit b (Ok (loaded.Part n p)) (sym e ∙ q) (λ (o : (Ok (loaded.Part n p)) ≡ Err untaken.Shape). (let z : ◌≡◌ {A = ℕ} 0 1 = cc in omega arith)) in
      record { size = l.size; count = omega (arith, l.count, part_count (eqb (get_or b 0 0) 0) (eqb (get_or b 0 0) 1) (eqb (get_or b 0 0) 20) (eqb (get_or b 0 0) 21) (eqb (get_or b 0 0) 22) (eqb (get_or b 0 0) 23) (count_in b) (place_in b) n p l.by) }

  pub holds_whole : (n p : ℕ) → x ≡ Ok (loaded.Whole n p) → Holds limit b n
  unfolding loaded_by
  holds_whole n p q =
      let l = loads limit b (Ok (loaded.Whole n p)) (sym e ∙ q) (λ (o : (Ok (loaded.Whole n p)) ≡ Err untaken.Shape). (let z : ◌≡◌ {A = ℕ} 0 1 = cc in omega arith)) in
      record { size = l.size; count = omega (arith, l.count, whole_count (eqb (get_or b 0 0) 0) (eqb (get_or b 0 0) 1) (eqb (get_or b 0 0) 20) (eqb (get_or b 0 0) 21) (eqb (get_or b 0 0) 22) (eqb (get_or b 0 0) 23) (count_in b) (place_in b) n p l.by) }

  -- ---- `take`

  pub take_part : (f : List ℕ) (n p : ℕ) (o : After) → x ≡ Ok (loaded.Part n p) → o ≡ resumed limit b n p f → o ≡ take_at limit b f
  unfolding take_at
  take_part f n p o q g = g ∙ rw (← e, q)

  pub take_whole : (f : List ℕ) (n p : ℕ) (o : After) → x ≡ Ok (loaded.Whole n p) → o ≡ begun limit b n p f → o ≡ take_at limit b f
  unfolding take_at
  take_whole f n p o q g = g ∙ rw (← e, q)

  pub take_refused : (f : List ℕ) (r : EnvelopeRefusal) → x ≡ Err (untaken.Refused r) → after (Err (untaken.Refused r)) b ≡ take_at limit b f
  unfolding take_at
  take_refused f r q = rw (← e, q)

  -- ---- `end`

  pub end_cut : (n p : ℕ) (t : Bool) (a : Taking) (z : List ℕ) → x ≡ Ok (loaded.Part n p) → (n ≡ 0 → ⊥)
      → t ≡ unfinished limit (held_in n b) → t ≡ true
      → after a z ≡ after (Err (untaken.Refused Cut)) (record_of limit (refused Cut p)) → after a z ≡ end_at limit b
  unfolding end_at cut_short
  end_cut n p t a z q h u v g = g ∙ rw (← e, q, ne_eqb n 0 h, ← u, v)

  pub end_refused : (r : EnvelopeRefusal) → x ≡ Err (untaken.Refused r) → after (Err (untaken.Refused r)) b ≡ end_at limit b
  unfolding end_at
  end_refused r q = rw (← e, q)
