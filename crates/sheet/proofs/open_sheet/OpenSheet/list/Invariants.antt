use Rattle.std.proofs.Common.{◌≡◌, ◌++◌, drop}
use Rattle.std.specs.List.{flat_map}
use Rattle.sheet.specs.Format.{single, measured, section}
use Rattle.sheet.specs.Opened.{opened}
use Rattle.sheet.proofs.open_sheet.OpenSheet.list.Given as goal

abbrev pub invariant-loop : goal.invariant-loop
invariant-loop l =
    l.lists ≡ flat_map measured (drop l.counter (opened l.self.bytes.now).0.lists) ++ section single (opened l.self.bytes.now).1
