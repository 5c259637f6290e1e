-- What the program prints, fragment after fragment, is the text of its whole input (`printed_whole`), whatever the fragments are.
-- Assumes nothing.
use mathlib.Core.Path.{◌≡◌, refl, ap, sym, ◌∙◌}
use mathlib.Core.Bool.{cond}
use mathlib.Core.List.{List, [], ◌∷◌, ◌++◌, append_assoc}
use Prim.Native.Nat.{ℕ, suc, ◌+◌, ◌-◌, min}
use native.Mathlib.Omega.{arith}
use native.Mathlib.Nat.{add-zero}
use lib.ListN.{length, take, drop, length-append}
use lib.Seq.{length-take-le, drop-drop, drop-append_seam}
use Rattle.envelope.specs.Envelopes.{Content, bytes_of, most_bits}
use Rattle.envelope.specs.Strings.{ended, Walk, walk, string_of, all_placed, Told as Says, whole as Says-All, broken as says-part}
use Rattle.envelope.specs.declared.EnvelopeRefusal.{EnvelopeRefusal}
use Rattle.envelope.specs.declared.EnvelopeRefusal.TheVariants.{Cut, Groups, Kind, Size}
use Rattle.envelope.proofs.Numbers.{AllBytes}
use Rattle.envelope.proofs.Strings.{every_string, placed_next}
use Rattle.fragments.specs.Mail.{Mail, part, whole, refused, fresh, top, later}
use Rattle.fragments.specs.Record.{place_of, held_of, record_of, loaded_by, load_at, end_at}
use Rattle.fragments.specs.Cuts.{Fed, joined_up, leaves, whole_mail, whole_read, whole_end}
use Rattle.fragments.specs.Texts.{title, line_of, lines_of, end_of, refusal_of, last_line, text_of}
use Rattle.fragments.specs.Reports.{end_text, is_refused, printed_from}
use Rattle.fragments.proofs.Ranges.{bytes_front, bytes_back}
use Rattle.fragments.proofs.Unfinished.{Sized}
use Rattle.fragments.proofs.Storing.{count_record, place_record}
use Rattle.fragments.proofs.Calls.{sized}
use Rattle.fragments.proofs.Whole.{told, follow, follow_all, Good, good_follow}
use Rattle.fragments.proofs.EveryCut.{fed_of, fits, placed, loads, hand_one, hand_all_is, every_cut, good_fresh, good_whole, ended_as_whole}

lines_append : (cs ds : List Content) → lines_of (cs ++ ds) ≡ lines_of cs ++ lines_of ds
unfolding lines_of
lines_append [] ds = refl
lines_append (c ∷ cs) ds = rw (lines_append cs ds) (sym (append_assoc (line_of c.kind c.job c.bits) (lines_of cs) (lines_of ds)))

-- how far a list of envelopes reaches is where what is held after it ends
leaves_reach : (s : List ℕ) (cs : List Content) (at n : ℕ) (m : Mail) → drop at s ≡ string_of cs
    → later (place_of m) (length (held_of m)) ≡ min at top
    → later (place_of (leaves s m at (all_placed at cs) (ended n))) (length (held_of (leaves s m at (all_placed at cs) (ended n)))) ≡ min (at + length (string_of cs)) top
unfolding leaves all_placed string_of
leaves_reach s [] at n m d h = rw (add-zero at) h
leaves_reach s (c ∷ cs) at n m d h =
    let k : length (drop at s) ≡ length (bytes_of c) + length (string_of cs) = ap length d ∙ length-append (bytes_of c) (string_of cs) in
    let l : length (take (at + length (bytes_of c) - at) (drop at s)) ≡ at + length (bytes_of c) - at = length-take-le
    (at + length (bytes_of c) - at) (drop at s) (omega arith) in
    let e : drop (at + length (bytes_of c)) s ≡ string_of cs = sym (drop-drop (length (bytes_of c)) at s) ∙
    (ap (drop (length (bytes_of c))) d ∙ drop-append_seam (bytes_of c) (string_of cs)) in
    let o : at + length (bytes_of c) + length (string_of cs) ≡ at + length (bytes_of c ++ string_of cs) = rw
    (length-append (bytes_of c) (string_of cs)) (omega arith) in
    rw (placed_next at c, ← o) (leaves_reach s cs (at + length (bytes_of c)) n
    (whole (min at top) (take (at + length (bytes_of c) - at) (drop at s))) e (omega (arith, l)))

module _ (limit : ℕ) (z : Sized limit) where
  -- the lines, and the last line
  abbrev plain : Fed → List ℕ
  plain x = lines_of x.envelopes ++ end_text (end_at limit x.bytes)

  -- ---- to stop at a refusal leaves nothing out

  abbrev rest : Mail → List (List ℕ) → List ℕ
  rest m fs = plain (fed_of limit (follow_all limit m fs))

  refused_stays : (r : EnvelopeRefusal) (p : ℕ) (fs : List (List ℕ)) → follow_all limit (refused r p) fs ≡ told [] (refused r p)
  unfolding follow_all
  refused_stays r p [] = refl
  refused_stays r p (f ∷ fs) = rw (refused_stays r p fs)

  refused_rest : (r : EnvelopeRefusal) (p : ℕ) (fs : List (List ℕ))
      → end_text (end_at limit (record_of limit (refused r p))) ≡ rest (refused r p) fs
  unfolding lines_of
  refused_rest r p fs = rw (refused_stays r p fs)

  stopping : (m : Mail) (fs : List (List ℕ)) → Good limit m → printed_from limit (record_of limit m) fs ≡ rest m fs
      → cond (is_refused (load_at limit (record_of limit m))) (end_text (end_at limit (record_of limit m))) (printed_from limit (record_of limit m) fs) ≡ rest m fs
  unfolding loaded_by
  stopping (part p h) fs g e = rw (loads limit z (part p h) g) e
  stopping (whole p h) fs g e = rw (loads limit z (whole p h) g) e
  stopping (refused Cut p) fs g e = rw (loads limit z (refused Cut p) g) (refused_rest Cut p fs)
  stopping (refused Groups p) fs g e = rw (loads limit z (refused Groups p) g) (refused_rest Groups p fs)
  stopping (refused Kind p) fs g e = rw (loads limit z (refused Kind p) g) (refused_rest Kind p fs)
  stopping (refused Size p) fs g e = rw (loads limit z (refused Size p) g) (refused_rest Size p fs)

  printed_rest : (m : Mail) (fs : List (List ℕ)) → Good limit m → AllBytes (joined_up fs)
      → printed_from limit (record_of limit m) fs ≡ rest m fs
  unfolding printed_from follow_all joined_up lines_of
  printed_rest m [] g b = refl
  printed_rest m (f ∷ fs) g b =
      let c = bytes_front f (joined_up fs) b in
      let k = good_follow limit z m f g c in
      let t = stopping (follow limit m f).mail fs k (printed_rest (follow limit m f).mail fs k (bytes_back f (joined_up fs) b)) in
      rw (
        hand_one limit z (suc (length f)) m f g c (omega arith),
        t,
        lines_append (follow limit m f).envelopes
            (follow_all limit (follow limit m f).mail fs).envelopes,
      )
      (sym (append_assoc (lines_of (follow limit m f).envelopes)
      (lines_of (follow_all limit (follow limit m f).mail fs).envelopes)
      (end_text (end_at limit (record_of limit (follow_all limit (follow limit m f).mail fs).mail)))))

  -- ---- the last line is that of the walk

  last_whole : (s : List ℕ) → AllBytes s → (w : Walk) → walk limit s ≡ w → Says limit s 0 w
      → end_text (whole_end limit s w.ending) ≡ last_line w.ending
  unfolding whole_mail
  last_whole s b w e (Says-All cs f d) =
      let m : whole_mail limit s ≡ leaves s fresh 0 (all_placed 0 cs) (ended (0 + length (string_of cs))) = rw e in
      let l : later (place_of (whole_mail limit s)) (length (held_of (whole_mail limit s))) ≡ min (0 + length (string_of cs))
      top = rw m (leaves_reach s cs 0 (0 + length (string_of cs)) fresh d (omega arith)) in
      let g = good_whole limit z s b in
      let p = place_record limit (whole_mail limit s) (fits limit z (whole_mail limit s) g) (placed limit z (whole_mail limit s) g) in
      let n = count_record limit (whole_mail limit s) (fits limit z (whole_mail limit s) g) z.most in
      ap end_of (omega (arith, l, p, n))
  last_whole s b w e (says-part cs t r f d h q) =
      let p = place_record limit (refused r (min (0 + length (string_of cs)) top)) (omega arith) (omega arith) in
      ap (refusal_of r) (omega (arith, p))

  -- the theorem
  pub printed_whole : (fs : List (List ℕ)) → AllBytes (joined_up fs)
      → title ++ printed_from limit (record_of limit fresh) fs ≡ text_of limit (joined_up fs)
  unfolding text_of
  printed_whole fs b =
      let f : fed_of limit (follow_all limit fresh fs) ≡ whole_read limit (joined_up fs) = sym
      (hand_all_is limit z fresh fs (good_fresh limit z) b) ∙ every_cut limit z fs b in
      let e = ended_as_whole limit z (joined_up fs) b in
      let l = last_whole (joined_up fs) b (walk limit (joined_up fs)) refl (every_string limit (joined_up fs) b) in
      ap (λ (t : List ℕ). title ++ t) (printed_rest fresh fs (good_fresh limit z) b ∙ (ap plain f ∙ rw (e, l)))

-- ---- today's limit

pub printed_today : (fs : List (List ℕ)) → AllBytes (joined_up fs)
    → title ++ printed_from most_bits (record_of most_bits fresh) fs ≡ text_of most_bits (joined_up fs)
printed_today fs b = printed_whole most_bits sized fs b
