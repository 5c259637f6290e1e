-- What a writer leaves in a lent buffer, as crate apdu has it.
pub use Rattle.apdu.specs.Writing.{Done, done}
unfoldable pub use Rattle.apdu.specs.Writing.{write_out}
