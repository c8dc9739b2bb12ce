-- What a roll that was read means.
use Rattle.rules.specs.Meaning.{Entries}
use Rattle.allotment.specs.declared.lists.Lists.{Lists}
use Rattle.allotment.specs.Vectors.{copied}

abbrev pub entries : Lists → Entries
entries L = copied L.places L.lists
