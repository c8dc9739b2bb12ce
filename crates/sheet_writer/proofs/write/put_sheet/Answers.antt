use Rattle.std.proofs.Common.{◌+◌, ◌*◌, ◌≤◌, length, ap, arith, rules}
use Rattle.std.proofs.lemmas.List.{length-take, length-drop}
use Rattle.sheet.proofs.Sheets.{length_pairs, joined_single}
use Rattle.sheet_writer.proofs.Whole.{sheet_length, two_length, all_sections}
use Rattle.sheet_writer.proofs.write.put_sheet.Goals as goal

pub slice_bounds-put_practices-end : goal.slice_bounds-put_practices-end
slice_bounds-put_practices-end g c =
    let e = g.R.Roll.entries c.args.roll.now in
    let h : 2 + 2 * c.practices.result + 4 ≤ length c.args.out.now = omega (arith, c.practices.ensures, sheet_length e c.args.filing.now, c.requires.room) in
    search rules

pub put_practices-requires : goal.put_practices-requires
put_practices-requires g c =
    let e = g.R.Roll.entries c.args.roll.now in
    simp (length-take, length-drop) (omega (arith, c.practices.ensures, length_pairs e.places, sheet_length e c.args.filing.now, c.requires.room))

pub slice_bounds-put_filing-end : goal.slice_bounds-put_filing-end
slice_bounds-put_filing-end g c =
    let e = g.R.Roll.entries c.args.roll.now in
    let h : 2 + 2 * c.practices.result + 2 + c.lists_length.result + 2 + length c.args.filing.now ≤ length c.args.out.now = omega (arith, c.practices.ensures, c.lists_length.ensures.all, sheet_length e c.args.filing.now, c.requires.room) in
    search rules

pub put_filing-requires-clause-room : goal.put_filing-requires-clause-room
put_filing-requires-clause-room g c =
    let e = g.R.Roll.entries c.args.roll.now in
    let f = c.args.filing.now in
    let all = sheet_length e f in
    let size = two_length e c.args.out.now c.put_practices.new.out c.put_trainees.new.out c.practices.result c.lists_length.result c.practices.ensures c.lists_length.ensures.all c.put_practices.ensures c.put_trainees.ensures (omega (arith, c.practices.ensures, c.lists_length.ensures.all, c.requires.room)) in
    simp (length-take, length-drop) (omega (arith, size, c.practices.ensures, c.lists_length.ensures.all, ap length (joined_single f), c.requires.room))

pub returns-clause-bytes : goal.returns-clause-bytes
returns-clause-bytes g c =
    all_sections (g.R.Roll.entries c.args.roll.now) c.args.out.now c.put_practices.new.out c.put_trainees.new.out c.practices.result c.lists_length.result c.practices.ensures c.lists_length.ensures.all c.args.filing.now c.put_filing.new.out c.put_practices.ensures c.put_trainees.ensures c.put_filing.ensures
