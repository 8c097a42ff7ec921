-- What a draft tells.
use Rattle.cert_text.specs.declared.draft.Draft.{Draft}
use Rattle.cert_text_law.specs.Told.{Told}

abbrev pub told : Draft → Told
told d = record { point = d.point; ray = d.ray; direction = d.direction; value = d.value; squares = d.squares; nodes = d.nodes }
