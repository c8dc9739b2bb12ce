-- What an open sheet means: the entries and the filing that its bytes open as.
use Rattle.rules.specs.Meaning.{Entries}
use Rattle.sheet.specs.declared.open_sheet.OpenSheet.{OpenSheet}
use Rattle.sheet.specs.Filing.{Filing}
use Rattle.sheet.specs.Opened.{opened}

abbrev pub entries_in : OpenSheet → Entries
entries_in s = (opened s.bytes.now).0

abbrev pub filing_in : OpenSheet → Filing
filing_in s = (opened s.bytes.now).1
