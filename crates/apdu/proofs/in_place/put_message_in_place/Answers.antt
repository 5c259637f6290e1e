use Rattle.apdu.proofs.InPlaceWriters.{alone, led_message}
use Rattle.apdu.proofs.in_place.put_message_in_place.Goals as goal

pub returns-in-None : goal.returns-in-None
returns-in-None c =
    alone _ _ _ _ _ _ _ _ c.requires.0.0 c.requires.0.1 c.requires.1 c.requires.2 c.place.ensures
    c.in-None.is c.put_bits.ensures

pub returns-in-Some : goal.returns-in-Some
returns-in-Some c =
    led_message _ _ _ _ _ _ _ _ c.requires.0.0 c.requires.0.1 c.requires.1 c.requires.2 c.place-in-Some.ensures _
    c.in-Some.is c.put_led.ensures
