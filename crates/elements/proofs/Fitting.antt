-- Each piece of an element fits where the element does, so that an element with room for its bits is written whole.
-- Assumes nothing.
use mathlib.Core.Path.{◌≡◌, refl}
use mathlib.Core.Bool.{Bool, true, false, cond, ◌&&◌}
use mathlib.Core.List.{List, [], ◌∷◌, ◌++◌}
use Prim.Native.Nat.{ℕ, suc, ◌+◌, ◌≤◌}
use native.Mathlib.Omega.{arith}
use lib.ListN.{length}
use lib.Dec.{eqb, leb, ltb}
use borrow.Author.Tests.{le-leb, ltb-true, ne_eqb}
use Rattle.words.proofs.Laws.{both_left, both_right}
use Rattle.bits.specs.Bits.{bits_to}
use Rattle.bits.specs.Put.{left, put_bits}
use Rattle.fields.specs.Encodings.{whole_fits}
use Rattle.kinds.specs.declared.Direction.{Direction}
use Rattle.kinds.specs.declared.ArgumentKind.{ArgumentKind}
use Rattle.kinds.specs.declared.ArgumentKind.TheVariants as kind
use Rattle.elements.specs.declared.values.LevelType.{LevelType}
use Rattle.elements.specs.declared.values.Level.{Level}
use Rattle.elements.specs.declared.values.Time.{Time}
use Rattle.elements.specs.declared.values.Element.{Element}
use Rattle.kinds.specs.Elements.{kind_of}
use Rattle.elements.specs.Arguments.{no_type, same?, level_type_fits, level_fits, time_fits, digits_fit, code_fits_of, characters_fit, sized_fits, facility_fits, atis_fits}
use Rattle.elements.specs.OneElement.{level_unused, time_unused, code_unused, levels_unused, plain, no_text_of, argument_fits, last_of, element_fits, element_bits}
use Rattle.elements.specs.Writing.{Piece, whole, put_pieces, pieces_fit, choice_piece, level_type_pieces, level_pieces, time_pieces, number_pieces, sized_pieces, facility_pieces, argument_pieces, index_piece, element_pieces}
use Rattle.elements.proofs.Standing.{both_hold}
use Rattle.elements.proofs.Steps.{never}
use Rattle.elements.proofs.ReadBack.{parts}
use Rattle.elements.proofs.Pieces.{pieces_left}
use Rattle.elements.proofs.Written.{element_bits_is}
use Rattle.std.specs.Prelude.{Some}

pub fit_append : (xs ys : List Piece) → pieces_fit xs ≡ true → pieces_fit ys ≡ true → pieces_fit (xs ++ ys) ≡ true
unfolding pieces_fit
fit_append [] ys p q = q
fit_append (x ∷ xs) ys p q = both_hold x.fits (pieces_fit (xs ++ ys)) (both_left x.fits (pieces_fit xs) p)
    (fit_append xs ys (both_right x.fits (pieces_fit xs) p) q)

one_fits : (x : Piece) → x.fits ≡ true → pieces_fit (x ∷ []) ≡ true
unfolding pieces_fit
one_fits x p = both_hold x.fits true p refl

two_fit : (x y : Piece) → x.fits && y.fits ≡ true → pieces_fit (x ∷ y ∷ []) ≡ true
unfolding pieces_fit
two_fit x y p = both_hold x.fits (y.fits && true) (both_left x.fits y.fits p)
    (both_hold y.fits true (both_right x.fits y.fits p) refl)

pub no_piece : pieces_fit [] ≡ true
unfolding pieces_fit
no_piece = refl

pub level_type_fit : (x : LevelType) → level_type_fits x ≡ true → pieces_fit (level_type_pieces x) ≡ true
unfolding level_type_pieces level_type_fits
level_type_fit x p = two_fit _ _ p

pub choice_fits : (b : Bool) → pieces_fit (choice_piece b) ≡ true
choice_fits true = one_fits (whole 0 1 1) refl
choice_fits false = one_fits (whole 0 1 0) refl

pub level_fit : (x : Level) → level_fits x ≡ true → pieces_fit (level_pieces x) ≡ true
unfolding level_pieces level_fits
level_fit x p =
    fit_append (choice_piece x.block ++ level_type_pieces x.first) _
    (fit_append (choice_piece x.block) (level_type_pieces x.first) (choice_fits x.block)
    (level_type_fit x.first (both_left (level_type_fits x.first) _ p)))
    (second x.block (both_right (level_type_fits x.first) (cond x.block (level_type_fits x.second) (same? x.second no_type)) p))
  where
    second : (b : Bool) → cond b (level_type_fits x.second) (same? x.second no_type) ≡ true
        → pieces_fit (cond b (level_type_pieces x.second) []) ≡ true
    second true h = level_type_fit x.second h
    second false h = no_piece

pub time_fit : (x : Time) → time_fits x ≡ true → pieces_fit (time_pieces x) ≡ true
unfolding time_pieces time_fits
time_fit x p = two_fit _ _ p

pub code_fit : (ds : List ℕ) → digits_fit ds ≡ true → pieces_fit (number_pieces 7 ds) ≡ true
unfolding number_pieces digits_fit pieces_fit
code_fit [] p = refl
code_fit (d ∷ ds) p = both_hold (whole_fits 0 7 d) _ (both_left (whole_fits 0 7 d) (digits_fit ds) p)
    (code_fit ds (both_right (whole_fits 0 7 d) (digits_fit ds) p))

pub characters_fit_is : (cs : List ℕ) → characters_fit cs ≡ true → pieces_fit (number_pieces 127 cs) ≡ true
unfolding number_pieces characters_fit pieces_fit
characters_fit_is [] p = refl
characters_fit_is (c ∷ cs) p =
    let h = ltb-true c 128 (both_left (ltb c 128) (characters_fit cs) p) in
    both_hold (whole_fits 0 127 c) _
    (both_hold (leb 0 c) (leb c 127) (le-leb 0 c (omega arith)) (le-leb c 127 (omega arith)))
    (characters_fit_is cs (both_right (ltb c 128) (characters_fit cs) p))

pub sized_fit : (least most : ℕ) (t : List ℕ) → sized_fits least most t ≡ true → pieces_fit (sized_pieces least most t) ≡ true
unfolding sized_pieces sized_fits
sized_fit least most t p = fit_append (whole least most (length t) ∷ []) (number_pieces 127 t)
    (one_fits (whole least most (length t)) (both_left (whole_fits least most (length t)) (characters_fit t) p))
    (characters_fit_is t (both_right (whole_fits least most (length t)) (characters_fit t) p))

pub facility_fit : (t : List ℕ) → facility_fits t ≡ true → pieces_fit (facility_pieces t) ≡ true
unfolding facility_pieces facility_fits
facility_fit [] p = choice_fits false
facility_fit (c ∷ cs) p = rw (ne_eqb (suc (length cs)) 0 (λ (z : suc (length cs) ≡ 0). omega arith))
    (fit_append (choice_piece true) (sized_pieces 4 8 (c ∷ cs)) (choice_fits true) (sized_fit 4 8 (c ∷ cs) p))

pub argument_fit : (k : ArgumentKind) (e : Element) (t : List ℕ) → argument_fits k e t ≡ true → pieces_fit (argument_pieces k e t) ≡ true
unfolding argument_pieces argument_fits levels_unused code_fits_of atis_fits
argument_fit kind.NotCarried e t p = never (cc)
argument_fit kind.None e t p = no_piece
argument_fit kind.Level e t p = level_fit e.level (parts (level_fits e.level) (level_unused e.other)
    (time_unused e.time) (code_unused e.code) (no_text_of t) p).first
argument_fit kind.TwoLevels e t p =
    let q = parts (level_fits e.level) (level_fits e.other) (time_unused e.time) (code_unused e.code) (no_text_of t) p in
    fit_append (level_pieces e.level) (level_pieces e.other) (level_fit e.level q.first) (level_fit e.other q.second)
argument_fit kind.Time e t p = time_fit e.time (parts (level_unused e.level) (level_unused e.other)
    (time_fits e.time) (code_unused e.code) (no_text_of t) p).third
argument_fit kind.Code e t p = code_fit e.code (both_right (eqb (length e.code) 4) (digits_fit e.code) (parts
    (level_unused e.level) (level_unused e.other) (time_unused e.time)
    (eqb (length e.code) 4 && digits_fit e.code) (no_text_of t) p).fourth)
argument_fit kind.FreeText e t p = sized_fit 1 256 t (both_right (plain e) (sized_fits 1 256 t) p)
argument_fit kind.Facility e t p = facility_fit t (both_right (plain e) (facility_fits t) p)
argument_fit kind.FacilityDesignation e t p = sized_fit 4 8 t (both_right (plain e) (sized_fits 4 8 t) p)
argument_fit kind.AtisCode e t p = characters_fit_is t
    (both_right (eqb (length t) 1) (characters_fit t) (both_right (plain e) (eqb (length t) 1 && characters_fit t) p))

pub element_fit : (d : Direction) (e : Element) (t : List ℕ) → element_fits d e t ≡ true → pieces_fit (element_pieces d e t) ≡ true
unfolding element_pieces element_fits
element_fit d e t p =
    let q = both_left (whole_fits 0 (last_of d) e.number && eqb e.characters (length t)) (argument_fits (kind_of d e.number) e t) p in
    fit_append (index_piece (last_of d) e.number ∷ []) (argument_pieces (kind_of d e.number) e t)
    (one_fits (index_piece (last_of d) e.number) (both_left (whole_fits 0 (last_of d) e.number) (eqb e.characters (length t)) q))
    (argument_fit (kind_of d e.number) e t (both_right
    (whole_fits 0 (last_of d) e.number && eqb e.characters (length t))
    (argument_fits (kind_of d e.number) e t) p))

-- an element of its type, with room for its bits, is written whole
pub element_written : (d : Direction) (e : Element) (t s : List ℕ) (end at : ℕ) → element_fits d e t ≡ true
    → at + length (element_bits d e t) ≤ length (bits_to s end)
    → put_pieces s end at (element_pieces d e t) ≡ left (Some (at + length (element_bits d e t))) (put_bits s at (element_bits d e t))
element_written d e t s end at p h = rw (element_bits_is d e t) at
    (pieces_left (element_pieces d e t) s end at (element_fit d e t p) (rw (element_bits_is d e t) h))
