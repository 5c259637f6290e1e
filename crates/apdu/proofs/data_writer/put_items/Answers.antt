use Rattle.apdu.proofs.Writers.{placed, items_run}
use Rattle.apdu.proofs.data_writer.put_items.Goals as goal

pub returns : goal.returns
returns c =
    placed _ _ _ _ _ _ c.requires.4 (items_run _ _ _ _ _ _ _ _ c.requires.0.0 c.requires.0.1 c.requires.1 c.requires.2
    c.requires.3 c.put_led_string.ensures) c.place.ensures
