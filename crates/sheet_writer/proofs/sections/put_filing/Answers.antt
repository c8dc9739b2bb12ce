use Rattle.std.proofs.Common.{ℕ, List, ◌++◌, length, sym, refl, ap, ◌∙◌}
use borrow.Rule.Slice.PartMut.{put_mid}
use Rattle.std.proofs.lemmas.List.{take_rest}
use Rattle.sheet.specs.Format.{pair}
use Rattle.sheet.proofs.Sheets.{joined_single}
use Rattle.sheet_writer.proofs.Parts.{two_parts, room_behind}
use Rattle.sheet_writer.proofs.sections.put_filing.Goals as goal

pub copy_from_slice-requires : goal.copy_from_slice-requires
copy_from_slice-requires c =
    let f = c.args.filing.now in
    let out = c.args.out.now in
    let L : List ℕ = put_mid 0 2 out c.put_pair.new.out in
    ap length (take_rest L 2) ∙ room_behind (pair (length f)) f out c.put_pair.new.out refl (c.requires.room ∙ ap (λ (s : List ℕ). length (pair (length f) ++ s)) (joined_single f)) c.put_pair.ensures

pub returns : goal.returns
returns c =
    let f = c.args.filing.now in
    let out = c.args.out.now in
    two_parts (pair (length f)) f out c.put_pair.new.out c.copy_from_slice.new.self refl (c.requires.room ∙ ap (λ (s : List ℕ). length (pair (length f) ++ s)) (joined_single f)) c.put_pair.ensures c.copy_from_slice.ensures.after
    ∙ ap (λ (s : List ℕ). pair (length f) ++ s) (sym (joined_single f))
