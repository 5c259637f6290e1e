-- Laws of the text: how long its lines are, and what the loop over a fragment keeps.
-- Assumes nothing.
use mathlib.Core.Path.{◌≡◌, refl, ap, sym, ◌∙◌}
use mathlib.Core.List.{List, [], ◌∷◌, ◌++◌}
use Prim.Native.Nat.{ℕ, suc, ◌+◌, ◌-◌, ◌*◌, ◌^◌, ◌≤◌, ◌<◌}
use native.Mathlib.Omega.{arith}
use lib.ListN.{length, take, drop, length-append, length-drop}
use lib.Seq.{sets, sets-eq, length-sets, take_all, drop-drop}
use borrow.Author.Tests.{lt-ltb, le-ltb}
use Rattle.envelope.specs.Numbers.{Put}
use Rattle.envelope.specs.Envelopes.{refusal_number, Content, content_of}
use Rattle.envelope.specs.declared.EnvelopeRefusal.{EnvelopeRefusal}
use Rattle.envelope.specs.declared.Envelope.{Envelope}
use Rattle.envelope.proofs.Numbers.{AllBytes}
use Rattle.envelope.proofs.Puts.{sets_append}
use Rattle.fragments.specs.declared.Taken.TheVariants as taken
use Rattle.fragments.specs.declared.Untaken.TheVariants as untaken
use Rattle.fragments.specs.Mail.{Taking, later}
use Rattle.fragments.specs.Record.{After, after, count_in, place_in, take_at, end_at}
use Rattle.fragments.specs.Cuts.{Fed, fed, go_on, hand_over}
use Rattle.fragments.specs.Texts.{decimal, title, line_of, lines_of, end_of, refusal_of}
use Rattle.fragments.specs.Reports.{last_room, line_room, over, page, title_at, said, fragment_by, lines_at, end_line_of, last_at}
use Rattle.fragments.proofs.Unfinished.{Sized}
use Rattle.fragments.proofs.Answers.{answer_small}
use Rattle.fragments.proofs.Ranges.{bytes_drop}
use Rattle.fragments.proofs.Digits.{decimal_most, decimal_short}
use Rattle.std.specs.Prelude.{Err, None, Ok, Some}

-- ---- lengths

pub length_line : (kind job bits : ℕ)
    → length (line_of kind job bits) ≡ length (decimal kind) + (length (decimal job) + length (decimal bits)) + 3
unfolding line_of
length_line kind job bits = simp length-append (omega arith)

pub length_end : (n : ℕ) → length (end_of n) ≡ length (decimal n) + 5
unfolding end_of
length_end n = simp length-append (omega arith)

pub length_refusal : (r : EnvelopeRefusal) (n : ℕ) → length (refusal_of r n) ≡ length (decimal (refusal_number r)) + length (decimal n) + 13
unfolding refusal_of
length_refusal r n = simp length-append (omega arith)

-- a last line fits its room
pub end_fits : (n : ℕ) → length (end_of n) ≤ last_room
end_fits n = omega (arith, length_end n, decimal_most n)

pub refusal_fits : (r : EnvelopeRefusal) (n : ℕ) → length (refusal_of r n) ≤ last_room
refusal_fits r n = omega (arith, length_refusal r n, decimal_most (refusal_number r), decimal_most n)

-- the fragment's rest, as the code lends it
pub rest_is : (f : List ℕ) (at : ℕ) → take (length f - at) (drop at f) ≡ drop at f
rest_is f at = take_all (length f - at) (drop at f) (omega (arith, length-drop at f))

-- a finished envelope takes a byte of the fragment at least, and its line fits the room of one, where the limit has five digits at most
pub record Steps (limit : ℕ) (f : List ℕ) (e : Envelope) (n : ℕ) : Type 0 where
  pub some : 0 < n
  pub within : n ≤ length f
  pub line : length (line_of e.kind e.job e.bits) ≤ line_room

pub steps : (limit : ℕ) (b f y : List ℕ) (at : ℕ) (x : Taking) (e : Envelope) (n : ℕ) → Sized limit → limit < 10 ^ 5
    → AllBytes b → AllBytes f → after x y ≡ take_at limit b (take (length f - at) (drop at f)) → x ≡ Ok (taken.Whole e n)
    → Steps limit (drop at f) e n
steps limit b f y at x e n z h a c p q =
    let w : (take_at limit b (drop at f)).answer ≡ (Ok (taken.Whole e n)) = ap (λ (v : After). v.answer) (sym (rw (rest_is f at) at p)) ∙ q in
    let r = answer_small limit z e n b (drop at f) a (bytes_drop at f c) w in
    record {
      some = r.some;
      within = r.within;
      line = omega (
        arith,
        length_line e.kind e.job e.bits,
        decimal_short 0 e.kind (omega (arith, r.kind)),
        decimal_most e.job,
        decimal_short 4 e.bits (omega (arith, r.bits)),
      );
    }

-- ---- a text at the front of a buffer

pub front : (out z t : List ℕ) (next : ℕ) → Put out z 0 next t → length t ≤ length out → z ≡ over t out
front out z t next p h =
    let o : 0 + length t ≡ length t = omega arith in
    p.bytes ∙ (sets-eq t out 0 (omega arith) ∙ rw o)

pub front_next : (out z t : List ℕ) (next : ℕ) → Put out z 0 next t → next ≡ length t
front_next out z t next p = p.place ∙ omega arith

-- ---- the ways out of `report_title` and `report_end`, as the code has them

module _ (out : List ℕ) where
  pub no_title : length out < last_room → page None out ≡ title_at out
  unfolding title_at
  no_title h = rw (lt-ltb (length out) last_room h)

  pub title_put : (z : List ℕ) (next : ℕ) → last_room ≤ length out → Put out z 0 next title → page (Some next) z ≡ title_at out
  unfolding title_at
  title_put z next h p = rw (le-ltb (length out) last_room h, front_next out z title next p, front out z title next p (omega arith))

module _ (limit : ℕ) (b out : List ℕ) where
  pub no_end : length out < last_room → said None b out ≡ last_at limit b out
  unfolding last_at
  no_end h = rw (lt-ltb (length out) last_room h)

  -- t is the last line that the end's answer and the record after it make
  pub end_put : (x : Taking) (y z t : List ℕ) (next : ℕ) → last_room ≤ length out → after x y ≡ end_at limit b
      → end_line_of x y ≡ t → length t ≤ last_room → Put out z 0 next t → said (Some next) y z ≡ last_at limit b out
  unfolding last_at
  end_put x y z t next h e q l p = rw
      (le-ltb (length out) last_room h, ← e, q, front_next out z t next p, front out z t next p (omega arith))

  pub end_bare : (x : Taking) (y : List ℕ) → last_room ≤ length out → after x y ≡ end_at limit b → end_line_of x y ≡ []
      → said (Some 0) y out ≡ last_at limit b out
  unfolding last_at
  end_bare x y h e q = rw (le-ltb (length out) last_room h, ← e, q)

module _ (x : Taking) (y : List ℕ) (p : ℕ) (e : p ≡ place_in y) where
  pub end_line : (n k r : ℕ) → x ≡ Ok (taken.Part n) → k ≡ count_in y → r ≡ later p k → end_line_of x y ≡ end_of r
  end_line n k r q f g = rw q (ap end_of (omega (arith, e, f, g)))

  pub refusal_line : (r : EnvelopeRefusal) → x ≡ Err (untaken.Refused r) → p < 2 ^ 64 → end_line_of x y ≡ refusal_of r p
  refusal_line r q h = rw q (ap (refusal_of r) (omega (arith, e)))

-- ---- the loop over a fragment: the buffer z has the lines of the bytes before `at`, up to p; b is the record

pub record Reporting (limit : ℕ) (b₀ f o b z : List ℕ) (p at turns : ℕ) : Type 0 where
  pub same : length z ≡ length o
  pub kept : length b ≡ length b₀
  pub small : AllBytes b
  pub within : at ≤ length f
  pub room : p ≤ line_room * at
  pub place : p + length (lines_of (hand_over limit turns b (drop at f)).envelopes) ≡ length (lines_of (fragment_by limit b₀ f).envelopes)
  pub rest : sets z p (lines_of (hand_over limit turns b (drop at f)).envelopes) ≡ sets o 0 (lines_of (fragment_by limit b₀ f).envelopes)
  pub bytes : (hand_over limit turns b (drop at f)).bytes ≡ (fragment_by limit b₀ f).bytes

pub reporting_none : (limit : ℕ) (b f o : List ℕ) → AllBytes b → Reporting limit b f o b o 0 0 (length f + 1)
reporting_none limit b f o a =
    let e : length f + 1 ≡ suc (length f) = omega arith in
    record { same = refl; kept = refl; small = a; within = omega arith; room = omega arith; place = rw e (omega arith); rest = rw e refl; bytes = rw e refl }

lines_more : (c : Content) (cs : List Content) → lines_of (c ∷ cs) ≡ line_of c.kind c.job c.bits ++ lines_of cs
unfolding lines_of
lines_more c cs = refl

module _ (limit : ℕ) (b₀ f o b z : List ℕ) (p at turns : ℕ) (r : Reporting limit b₀ f o b z p at turns) where
  hand_none : turns ≤ 0 → hand_over limit turns b (drop at f) ≡ fed [] b
  unfolding hand_over
  hand_none h = let e : turns ≡ 0 = omega arith in rw e

  module _ (h : 0 < turns) (x : Taking) (y : List ℕ) (e : after x y ≡ take_at limit b (take (length f - at) (drop at f))) where
    handed : hand_over limit turns b (drop at f) ≡ go_on x y (λ (n : ℕ). hand_over limit (turns - 1) y (drop n (drop at f)))
    unfolding hand_over
    handed =
        let k : turns ≡ suc (turns - 1) = omega arith in
        let q : take_at limit b (drop at f) ≡ after x y = sym (rw (rest_is f at) at e) in
        ap (λ (n : ℕ). hand_over limit n b (drop at f)) k ∙ rw q

    pub reporting_more : (w : List ℕ) (next : ℕ) (c : Envelope) (n : ℕ) → x ≡ Ok (taken.Whole c n) → length y ≡ length b
        → AllBytes y → Steps limit (drop at f) c n → Put z w p next (line_of c.kind c.job c.bits)
        → Reporting limit b₀ f o y w next (at + n) (turns - 1)
    reporting_more w next c n q l a s u =
        let hand : hand_over limit turns b (drop at f) ≡ fed
        (content_of y c ∷ (hand_over limit (turns - 1) y (drop (at + n) f)).envelopes)
        (hand_over limit (turns - 1) y (drop (at + n) f)).bytes = handed ∙ rw (q, drop-drop n at f) in
        let ls : lines_of (hand_over limit turns b (drop at f)).envelopes ≡ line_of c.kind c.job c.bits ++
        lines_of (hand_over limit (turns - 1) y (drop (at + n) f)).envelopes = ap
        (λ (v : Fed). lines_of v.envelopes) hand ∙ lines_more (content_of y c)
        (hand_over limit (turns - 1) y (drop (at + n) f)).envelopes in
        let len : p + length
        (line_of c.kind c.job c.bits ++ lines_of (hand_over limit (turns - 1) y (drop (at + n) f)).envelopes)
        ≡ length (lines_of (fragment_by limit b₀ f).envelopes) = rw ls at r.place in
        record {
          same = rw u.bytes (length-sets z p (line_of c.kind c.job c.bits) ∙ r.same);
          kept = l ∙ r.kept;
          small = a;
          within = omega (arith, r.within, s.within, length-drop at f);
          room = omega (arith, r.room, s.some, s.line, u.place);
          place = omega (
            arith,
            u.place,
            length-append (line_of c.kind c.job c.bits)
                (lines_of (hand_over limit (turns - 1) y (drop (at + n) f)).envelopes),
          );
          rest = rw (u.bytes, u.place) (sym (sets_append z p (line_of c.kind c.job c.bits)
              (lines_of (hand_over limit (turns - 1) y (drop (at + n) f)).envelopes)) ∙ (rw ls at r.rest));
          bytes = ap (λ (v : Fed). v.bytes) (sym hand) ∙ r.bytes;
        }

  -- nothing more is handed out
  lines_none : lines_of [] ≡ []
  unfolding lines_of
  lines_none = refl

  ends : (y : List ℕ) → line_room * length f ≤ length o → hand_over limit turns b (drop at f) ≡ fed [] y
      → said (Some p) y z ≡ lines_at limit b₀ f o
  unfolding lines_at
  ends y h e =
      let ls : lines_of (hand_over limit turns b (drop at f)).envelopes ≡ [] = ap (λ (v : Fed). lines_of v.envelopes) e ∙ lines_none in
      let len : p + 0 ≡ length (lines_of (fragment_by limit b₀ f).envelopes) = rw ls at r.place in
      let same : p ≡ length (lines_of (fragment_by limit b₀ f).envelopes) = omega arith in
      let got : Put o z 0 p (lines_of (fragment_by limit b₀ f).envelopes) = record { bytes = rw ls at r.rest; place = same ∙ omega arith } in
      let bytes : y ≡ (fragment_by limit b₀ f).bytes = ap (λ (v : Fed). v.bytes) (sym e) ∙ r.bytes in
      rw (
        le-ltb (length o) (line_room * length f) h,
        ← bytes,
        front o z (lines_of (fragment_by limit b₀ f).envelopes) p
            got (omega (arith, r.room, r.within)),
      )
      (ap (λ (n : ℕ). said (Some n) y (over (lines_of (fragment_by limit b₀ f).envelopes) o)) same)

  pub reporting_out : turns ≤ 0 → line_room * length f ≤ length o → said (Some p) b z ≡ lines_at limit b₀ f o
  reporting_out h g = ends b g (hand_none h)

  pub reporting_done : (x : Taking) (y : List ℕ) → 0 < turns → line_room * length f ≤ length o
      → after x y ≡ take_at limit b (take (length f - at) (drop at f)) → ((k : ℕ → Fed) → go_on x y k ≡ fed [] y)
      → said (Some p) y z ≡ lines_at limit b₀ f o
  reporting_done x y h g e q = ends y g (handed h x y e ∙ q (λ (n : ℕ). hand_over limit (turns - 1) y (drop n (drop at f))))

pub no_lines : (limit : ℕ) (b f out : List ℕ) → length out < line_room * length f → said None b out ≡ lines_at limit b f out
unfolding lines_at
no_lines limit b f out h = rw (lt-ltb (length out) (line_room * length f) h)
