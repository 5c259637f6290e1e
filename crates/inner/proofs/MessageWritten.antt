-- A message measured and written, as the code does it: the pieces are its bits, each of them fits where it does, and the padding comes last.
-- Assumes nothing.
use mathlib.Core.Path.{◌≡◌, refl, sym, ap, ◌∙◌}
use mathlib.Core.Bool.{Bool, true, false, not}
use mathlib.Core.List.{List, [], ◌∷◌, ◌++◌, append_assoc, append-nil}
use Prim.Native.Nat.{ℕ, ◌+◌, ◌*◌, ◌-◌, ◌≤◌, ◌<◌}
use native.Mathlib.Omega.{arith}
use lib.ListN.{length, take, drop, length-append, length-take}
use lib.Dec.{leb}
use lib.Pow.{pow_pos}
use borrow.Author.Tests.{eq-eqb, le-leb, lt-leb, leb-true, le-ltb, lt-ltb}
use Rattle.words.proofs.Laws.{both_left, both_right}
use Rattle.bits.specs.Bits.{bits_n, bits_to}
use Rattle.bits.specs.Put.{Left, left, put_bits, put_number}
use Rattle.bits.proofs.Numbers.{length_bits_n}
use Rattle.bits.proofs.Bytes.{length_to}
use Rattle.bits.proofs.Putting.{put_append, put_fits, put_if_yes, length_put}
use Rattle.fields.specs.Encodings.{whole_fits}
use Rattle.fields.proofs.Writers.{as_number}
use Rattle.kinds.specs.declared.Direction.{Direction}
use Rattle.elements.specs.declared.values.Element.{Element}
use Rattle.elements.specs.OneElement.{element_fits, element_bits}
use Rattle.elements.specs.Writing.{whole, put_pieces, pieces_fit, pieces_bits}
use Rattle.elements.proofs.Pieces.{pieces_left}
use Rattle.elements.proofs.Written.{bits_append}
use Rattle.elements.proofs.Whole.{whole_below}
use Rattle.inner.specs.declared.values.Message.{Message}
use Rattle.inner.specs.Headers.{header_fits, header_bits}
use Rattle.inner.specs.Places.{row_fits, row_bits}
use Rattle.inner.specs.Messages.{all_empty, message_fits, message_bits, bits_most, room_least, message_carried, padding, padded, done, write_message}
use Rattle.inner.specs.Writing.{header_pieces, row_pieces, message_pieces}
use Rattle.inner.proofs.Runs.{yes, no, run_turn, run_full}
use Rattle.inner.proofs.HeaderWritten.{bits_cons, bits_none, header_bits_is, header_fit, length_header, fit_cons, fit_none, fit_join}
use Rattle.inner.proofs.HeaderPieces.{flag_most}
use Rattle.inner.proofs.RowPieces.{element_most, element_most_is, sized, sized_yes, sized_no, row_bits_is, row_fit}
use Rattle.inner.proofs.MessageLaws.{fits_of, one_bit, three_bits}
use Rattle.std.specs.Prelude.{Err, None, Ok, Option, Some}
use Rattle.words.specs.declared.Unwritten.TheVariants.{Room}
use Rattle.words.specs.declared.Unwritten.TheVariants.{Shape}

-- ---- how many bits there are at most

pub header_most : (m : Message) → length (header_bits m.header) ≤ 48
header_most m = omega (
  arith,
  length_header m.header,
  flag_most m.header.referenced _ refl,
  flag_most
      m.header.acknowledged _ refl,
)

pub row_most : (d : Direction) (xs : List Element) (t : List ℕ) → row_fits d xs t ≡ true → length (row_bits d xs t) ≤ element_most * length xs
unfolding row_fits row_bits
row_most d [] t h = omega arith
row_most d (x ∷ xs) t h =
    let c : ℕ = x.characters in
    let a = element_most_is d x (take c t) (both_left (element_fits d x (take c t)) (row_fits d xs (drop c t)) h) in
    let b = row_most d xs (drop c t) (both_right (element_fits d x (take c t)) (row_fits d xs (drop c t)) h) in
    let n = length-append (element_bits d x (take c t)) (row_bits d xs (drop c t)) in
    omega arith

module _ (d : Direction) (m : Message) (t : List ℕ) where
  pub length_message : length (message_bits d m t) ≡ length (header_bits m.header) + 4 + length (row_bits d (take m.count m.places) t)
  unfolding message_bits
  length_message = simp length-append (omega (arith, one_bit, three_bits m.count))

  -- ---- measured, as the code does it

  module _ (r : Option ℕ) (k : r ≡ sized (header_fits m.header) (header_bits m.header)) where
    pub no_header : r ≡ None → None ≡ sized (message_carried d m t) (message_bits d m t)
    unfolding message_fits
    no_header q = rw (sized_no (header_fits m.header) (header_bits m.header) (sym q ∙ k))

    module _ (a : ℕ) (q : r ≡ Some a) (c : Bool) (kc : c ≡ whole_fits 1 5 m.count) where
      header_right : (header_fits m.header ≡ true) × (a ≡ length (header_bits m.header))
      header_right = sized_yes (header_fits m.header) (header_bits m.header) a (sym q ∙ k)

      pub no_count : not c ≡ true → None ≡ sized (message_carried d m t) (message_bits d m t)
      unfolding message_fits
      no_count p = rw (header_right.0, no c (whole_fits 1 5 m.count) kc p)

      module _ (p : not c ≡ false) where
        pub count_few : m.count ≤ 5
        count_few = whole_below 1 5 m.count (yes c (whole_fits 1 5 m.count) kc p)

        module _ (five : length m.places ≡ 5) (s : Option ℕ) (ks : s ≡ sized (row_fits d (take m.count m.places) t) (row_bits d (take m.count m.places) t)) where
          pub no_row : s ≡ None → None ≡ sized (message_carried d m t) (message_bits d m t)
          unfolding message_fits
          no_row z = rw (
            header_right.0,
            yes c (whole_fits 1 5 m.count) kc p,
            eq-eqb (length m.places) 5 five,
            sized_no (row_fits d (take m.count m.places) t) (row_bits d (take m.count m.places) t)
                (sym z ∙ ks),
          )

          module _ (b : ℕ) (z : s ≡ Some b) where
            row_right : (row_fits d (take m.count m.places) t ≡ true) × (b ≡ length (row_bits d (take m.count m.places) t))
            row_right = sized_yes (row_fits d (take m.count m.places) t) (row_bits d (take m.count m.places) t) b (sym z ∙ ks)

            pub sum_small : (a ≤ 48) × (b ≤ element_most * 5)
            sum_small =
                let e = header_most m in
                let f = header_right.1 in
                let g = row_most d (take m.count m.places) t row_right.0 in
                let h = row_right.1 in
                let l = length-take m.count m.places in
                (omega arith, omega arith)

            module _ (u : Bool) (ku : u ≡ all_empty (drop m.count m.places)) where
              pub no_rest : not u ≡ true → None ≡ sized (message_carried d m t) (message_bits d m t)
              unfolding message_fits
              no_rest w = rw (
                header_right.0,
                yes c (whole_fits 1 5 m.count) kc p,
                eq-eqb (length m.places) 5
                    five,
                row_right.0,
                no u (all_empty (drop m.count m.places)) ku w,
              )

              module _ (w : not u ≡ false) where
                all_right : message_fits d m t ≡ true
                unfolding message_fits
                all_right = rw (
                  header_right.0,
                  yes c (whole_fits 1 5 m.count) kc p,
                  eq-eqb (length m.places) 5
                      five,
                  row_right.0,
                  yes u (all_empty (drop m.count m.places)) ku w,
                )

                total : a + 4 + b ≡ length (message_bits d m t)
                total = let e = header_right.1 in let f = row_right.1 in let g = length_message in omega arith

                pub too_long : bits_most < a + 4 + b → None ≡ sized (message_carried d m t) (message_bits d m t)
                too_long o = let e = total in rw (all_right, lt-leb (length (message_bits d m t)) bits_most (omega arith))

                pub measured_message : a + 4 + b ≤ bits_most → Some (a + 4 + b) ≡ sized (message_carried d m t) (message_bits d m t)
                measured_message o =
                    let e = total in
                    rw (all_right, le-leb (length (message_bits d m t)) bits_most (omega arith), total)

  -- ---- the pieces

  pub message_bits_is : pieces_bits (message_pieces d m t) ≡ message_bits d m t
  unfolding message_pieces message_bits
  message_bits_is = simp (bits_append, bits_cons, bits_none, header_bits_is, row_bits_is, append_assoc, append-nil)

  pub message_fit : message_fits d m t ≡ true → pieces_fit (message_pieces d m t) ≡ true
  unfolding message_pieces
  message_fit h =
      let f = fits_of d m t h in
      fit_join (header_pieces m.header) _ (header_fit m.header f.header)
      (fit_join (whole 0 1 0 ∷ whole 1 5 m.count ∷ []) _
      (fit_cons (whole 0 1 0) _ refl (fit_cons (whole 1 5 m.count) [] f.count fit_none))
      (row_fit d (take m.count m.places) t f.row))

  -- as the code writes them
  module _ (s : List ℕ) (e at : ℕ) (u : List ℕ) (a : Option ℕ) (k : left a u ≡ put_pieces s e at (header_pieces m.header)) where
    pieces_are : put_pieces s e at (header_pieces m.header ++
        ((whole 0 1 0 ∷ whole 1 5 m.count ∷ []) ++ row_pieces d (take m.count m.places) t)) ≡ put_pieces s e
        at (message_pieces d m t)
    unfolding message_pieces
    pieces_are = refl

    pub message_first : a ≡ None → left None u ≡ put_pieces s e at (message_pieces d m t)
    message_first q = run_full s e at (header_pieces m.header) _ _ pieces_are u a k q

    module _ (p : ℕ) (q : a ≡ Some p) (v : List ℕ) (b : Option ℕ) (l : left b v ≡ put_pieces u e p (whole 0 1 0 ∷ whole 1 5 m.count ∷ [])) where
      after_header : put_pieces u e p
          ((whole 0 1 0 ∷ whole 1 5 m.count ∷ []) ++ row_pieces d (take m.count m.places) t) ≡ put_pieces s e at
          (message_pieces d m t)
      after_header = run_turn s e at (header_pieces m.header) _ _ pieces_are u a k p q

      pub message_second : b ≡ None → left None v ≡ put_pieces s e at (message_pieces d m t)
      message_second r = run_full u e p (whole 0 1 0 ∷ whole 1 5 m.count ∷ []) _ _ after_header v b l r

      pub message_third : (n : ℕ) → b ≡ Some n → (z : List ℕ) (c : Option ℕ)
          → left c z ≡ put_pieces v e n (row_pieces d (take m.count m.places) t)
          → left c z ≡ put_pieces s e at (message_pieces d m t)
      message_third n r z c w = w ∙ run_turn u e p (whole 0 1 0 ∷ whole 1 5 m.count ∷ []) _ _ after_header v b l n r

-- ---- the whole call

room_for : (s : List ℕ) (n : ℕ) → room_least ≤ length s → n ≤ 8 * room_least → n ≤ length (bits_to s (8 * room_least))
room_for s n h g = rw (length_to s (8 * room_least)) (omega arith)

module _ (d : Direction) (m : Message) (t s : List ℕ) where
  pub too_small : length s < room_least → done (Err Room) s ≡ write_message d m t s
  unfolding write_message
  too_small h = rw (lt-ltb (length s) room_least h)

  module _ (h : room_least ≤ length s) (r : Option ℕ) (k : r ≡ sized (message_carried d m t) (message_bits d m t)) where
    pub not_carried : r ≡ None → done (Err Shape) s ≡ write_message d m t s
    unfolding write_message
    not_carried q = rw (le-ltb (length s) room_least h, sized_no (message_carried d m t) (message_bits d m t) (sym q ∙ k))

    module _ (n : ℕ) (q : r ≡ Some n) where
      carried : (message_carried d m t ≡ true) × (n ≡ length (message_bits d m t))
      carried = sized_yes (message_carried d m t) (message_bits d m t) n (sym q ∙ k)

      fits : message_fits d m t ≡ true
      fits = both_left (message_fits d m t) (leb (length (message_bits d m t)) bits_most) carried.0

      within : length (message_bits d m t) ≤ bits_most
      within = leb-true (length (message_bits d m t)) bits_most
          (both_right (message_fits d m t) (leb (length (message_bits d m t)) bits_most) carried.0)

      pub written_count : m.count ≤ 5
      written_count = whole_below 1 5 m.count (fits_of d m t fits).count

      pub written_out : (z y : List ℕ) (a b : Option ℕ) (w : ℕ)
          → left a z ≡ put_pieces s (8 * room_least) 0 (message_pieces d m t) → w ≡ padding n
          → left b y ≡ put_number z (8 * room_least) n w 0 → done (Ok n) y ≡ write_message d m t s
      unfolding write_message padded
      written_out z y a b w f i g =
          let bs : List ℕ = message_bits d m t in
          let e = carried.1 in
          let len = within in
          let p : put_pieces s (8 * room_least) 0 (message_pieces d m t) ≡ left (Some (0 + length bs)) (put_bits s 0 bs) =
          rw (message_bits_is d m t) at (pieces_left (message_pieces d m t) s (8 * room_least) 0 (message_fit d m t fits)
          (rw (message_bits_is d m t) (room_for s (0 + length bs) h (omega arith)))) in
          let zz : z ≡ put_bits s 0 bs = ap (λ (l : Left). l.bytes) (f ∙ p) in
          let j : w ≡ padding (length bs) = i ∙ ap padding e in
          let x = length_bits_n w 0 in
          let lz : length z ≡ length s = ap length zz ∙ length_put bs s 0 in
          let o : put_number z (8 * room_least) n w 0 ≡ left (Some (n + length (bits_n w 0))) (put_bits z n (bits_n w 0)) =
          as_number z (8 * room_least) n w 0 true (bits_n w 0) (omega arith) (pow_pos w) refl refl ∙ put_if_yes true z
          (8 * room_least) n (bits_n w 0) refl ∙ put_fits z (8 * room_least) n (bits_n w 0)
          (room_for z (n + length (bits_n w 0)) (omega arith) (omega arith)) in
          let yy : y ≡ put_bits z n (bits_n w 0) = ap (λ (l : Left). l.bytes) (g ∙ o) in
          let v : put_bits z n (bits_n w 0) ≡ put_bits s 0 (bs ++ bits_n (padding (length bs)) 0) = let c : 0 + length bs ≡
          length bs = omega arith in rw (zz, j, e)
          (rw c at (sym (put_append bs (bits_n (padding (length bs)) 0) s 0))) in
          rw (le-ltb (length s) room_least h, carried.0, yy, v, e)
