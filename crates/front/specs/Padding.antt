-- Whole bytes, as crate apdu has them: zero bits after an encoding, up to a whole byte, and nothing behind them (X.691, 11.1).
pub use Rattle.apdu.specs.Sizes.{all_bits, buffer_least}
pub use Rattle.apdu.specs.Pdus.{lent}
pub use Rattle.apdu.specs.Encoding.{padding, bytes_for}
unfoldable pub use Rattle.apdu.specs.Encoding.{padded}
unfoldable pub use Rattle.apdu.specs.Reading.{tail_at}
