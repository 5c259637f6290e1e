-- A body: message data, or a forward message, as an edition of the application has them. An alternative of AircraftPDUs or GroundPDUs: what stands behind
-- its index, a body or a number or both. The front is the same over every choice of alternatives.
use Rattle.std.specs.Prelude.{ℕ, List, Bool}
use Rattle.pdus.specs.declared.Content.{Content}
use Rattle.front.specs.declared.Found.{Found}
use Rattle.front.specs.Padding.{lent}
use Rattle.fields.specs.Fields.{Reading}

-- the bits that the parts of a content stand in: those of the identifier, of the message, of the check
pub record Lent : Type 0 where
  pub identifiers : List ℕ
  pub messages : List ℕ
  pub checks : List ℕ

-- all in the same bits, as in an APDU that was read
abbrev pub one : List ℕ → Lent
one l = record { identifiers = l; messages = l; checks = l }

-- each in lent bytes of its own, as the host gives them
abbrev pub given : List ℕ → List ℕ → List ℕ → Lent
given ids msgs checks = record { identifiers = lent ids; messages = lent msgs; checks = lent checks }

pub record Body : Type 1 where
  pub Value : Type 0
  -- which values there are, and their bits
  pub fits : Value → Bool
  pub bits : Value → List ℕ
  -- what a user is delivered of a value
  pub shown : Value → List ℕ
  -- what is read at a place
  pub read : List ℕ → ℕ → Reading Content
  -- what was read stands for a value: whether it is within the sizes and in the lent bits, and the value
  pub stands : Lent → Content → Bool
  pub value : Lent → Content → Value
  -- whether what was read at a place has additions from a later edition, and its bits with the additions gone
  pub extended : List ℕ → ℕ → Content → Bool
  pub plain : List ℕ → ℕ → Content → List ℕ

-- the same of an alternative, which says besides which PDU it is
pub record Alternative : Type 1 where
  pub Value : Type 0
  pub fits : Value → Bool
  pub bits : Value → List ℕ
  pub read : List ℕ → ℕ → Reading Found
  pub stands : Lent → Found → Bool
  pub value : Lent → Found → Value
  pub extended : List ℕ → ℕ → Found → Bool
  pub plain : List ℕ → ℕ → Found → List ℕ

-- a CHOICE with an extension marker: its last alternative, and what each holds
pub record Choice : Type 1 where
  pub last : ℕ
  pub body : ℕ → Alternative
