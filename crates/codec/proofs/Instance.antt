-- Both editions have the laws of a codec.
-- Assumes nothing.
use mathlib.Core.Path.{◌≡◌}
use mathlib.Core.Bool.{true, ◌&&◌}
use mathlib.Core.List.{List}
use Prim.Native.Nat.{ℕ}
use Rattle.words.proofs.Laws.{both_left, both_right}
use Rattle.elements.proofs.Standing.{both_hold}
use Rattle.editions.specs.declared.Edition.{Edition}
use Rattle.editions.specs.declared.Edition.TheVariants.{Plain, Protected}
use Rattle.apdu.specs.Sizes.{message_most, bit}
use Rattle.apdu.specs.Headings.{heading_fits}
use Rattle.apdu.specs.Pdus.{items_in, content_in}
use Rattle.apdu.specs.Writing.{items_fit, data_fits, forward_fits}
use Rattle.pdus.specs.declared.PduType.{PduType}
use Rattle.apdu.specs.declared.Data.{Data}
use Rattle.apdu.specs.declared.Forward.{Forward}
use Rattle.apdu.proofs.Bounds.{data_value_fits, forward_value_fits}
use Rattle.plain.specs.Plain as plain
use Rattle.plain.specs.Plain.{sent_by, elements_fit}
use Rattle.codec.specs.Codec.{given_fits, forward_given_fits}
use Rattle.codec.proofs.Stated.{content_fits, forward_pdu_fits, Laws}
use Rattle.codec.proofs.Contents.{Contents}
use Rattle.codec.proofs.Type22.{protected_contents}
use Rattle.codec.proofs.Type2.{plain_contents}
use Rattle.codec.proofs.Alternatives.{pdu_value_most, written_read, pdu_most_is, pdu_are_bits, accepted, forward_run}
use Rattle.codec.proofs.Bodies.{body_is, is_body, carries_is, start_of_is}

-- ---- what the host gives

given_places : (ed : Edition) (t : PduType) (li lm lc : List ℕ) (d : Data) → given_fits ed t li lm lc d ≡ true → data_fits li lm lc d ≡ true
unfolding plain.given_fits
given_places Plain t li lm lc d h = both_left (data_fits li lm lc d) (plain.content_fits (sent_by t) (content_in li lm lc d)) h
given_places Protected t li lm lc d h = h

given_value : (ed : Edition) (t : PduType) (li lm lc : List ℕ) (d : Data) → given_fits ed t li lm lc d ≡ true
    → content_fits ed t (content_in li lm lc d) ≡ true
unfolding plain.given_fits
given_value Plain t li lm lc d h = both_right (data_fits li lm lc d) (plain.content_fits (sent_by t) (content_in li lm lc d)) h
given_value Protected t li lm lc d h = data_value_fits li lm lc d h

forward_given_places : (ed : Edition) (lm : List ℕ) (f : Forward) → forward_given_fits ed lm f ≡ true → forward_fits lm f ≡ true
unfolding plain.forward_given_fits
forward_given_places Plain lm f h = both_left (forward_fits lm f) (elements_fit f.heading (items_in lm bit f.message)) h
forward_given_places Protected lm f h = h

forward_given_value : (ed : Edition) (lm : List ℕ) (f : Forward) → forward_given_fits ed lm f ≡ true
    → forward_pdu_fits ed f.heading (items_in lm bit f.message) ≡ true
unfolding plain.forward_given_fits forward_fits
forward_given_value Plain lm f h =
    both_hold (heading_fits f.heading) (elements_fit f.heading (items_in lm bit f.message))
    (both_left (heading_fits f.heading) (items_fit lm bit 0 message_most f.message)
    (both_left (forward_fits lm f) (elements_fit f.heading (items_in lm bit f.message)) h))
    (both_right (forward_fits lm f) (elements_fit f.heading (items_in lm bit f.message)) h)
forward_given_value Protected lm f h = forward_value_fits lm f h

-- ---- all of it

contents : (ed : Edition) → Contents ed
contents Plain = plain_contents
contents Protected = protected_contents

pub laws : (ed : Edition) → Laws ed
laws ed =
    record {
      given_places = given_places ed;
      given_value = given_value ed;
      forward_given_places = forward_given_places ed;
      forward_given_value = forward_given_value ed;
      content_are_bits = (contents ed).content_are_bits;
      start_are_bits = (contents ed).start_are_bits;
      pdu_are_bits = pdu_are_bits ed (contents ed);
      content_most_is = (contents ed).content_most_is;
      forward_most_is = (contents ed).forward_most_is;
      pdu_most_is = pdu_most_is ed (contents ed);
      content_value_most = (contents ed).content_value_most;
      pdu_value_most = pdu_value_most ed (contents ed);
      written_read = written_read ed (contents ed);
      accepted = accepted ed (contents ed);
      forward_run = forward_run ed (contents ed);
      body_is = body_is ed;
      is_body = is_body ed;
      carries_is = carries_is ed;
      start_of_is = start_of_is ed;
    }
