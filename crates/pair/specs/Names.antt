-- The words of the finite control, which crate control declares, in one place.
pub use Rattle.control.specs.declared.Side.{Side}
pub use Rattle.control.specs.declared.Side.TheVariants.{Air, Ground}
pub use Rattle.control.specs.declared.State.{State}
pub use Rattle.control.specs.declared.State.TheVariants.{Idle, StartReq, StartInd, Dialogue, End, Forward}
pub use Rattle.control.specs.declared.Control.{Control}
pub use Rattle.control.specs.declared.Reply.{Reply}
pub use Rattle.control.specs.declared.Reply.TheVariants.{Accepted, Rejected}
pub use Rattle.control.specs.declared.Call.{Call}
pub use Rattle.control.specs.declared.Call.TheVariants.{StartRequest, StartResponse, MessageRequest, EndRequest, EndResponse, UserAbort, TimerExpiry, SystemError}
pub use Rattle.control.specs.declared.Primitive.{Primitive}
pub use Rattle.control.specs.declared.Primitive.TheVariants.{DStart, DStartCnf, DTurnedAway, DData, DEnd, DEndCnf, DAbort, DPAbort}
pub use Rattle.control.specs.Control.{same, is, is_idle, waits, awaits_response, entered, closed, other, may_start, takes, goes, sends, expects, after, is_data, Did, quiet, aborts, meets, hands}
