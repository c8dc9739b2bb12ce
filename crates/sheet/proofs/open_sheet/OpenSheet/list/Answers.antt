use Rattle.std.proofs.Common.{◌≡◌, ℕ, ◌+◌, ◌-◌, ◌*◌, ◌<◌, List, [], ◌++◌, length, get_or, take, drop, ap, ◌∙◌, arith, rules}
use Rattle.std.specs.List.{flat_map}
use Rattle.std.proofs.lemmas.List.{take_rest, length-drop}
use Rattle.rules.specs.Meaning.{trainees}
use Rattle.sheet.specs.Format.{single, measured, section}
use Rattle.sheet.specs.Opened.{opened}
use Rattle.sheet.proofs.Sheets.{lists_at, Stands, stands}
use Rattle.sheet.proofs.open_sheet.OpenSheet.list.Goals as goal

-- the list of trainee i, where the walk has come to
walked : (b lists : List ℕ) (i : ℕ) → i < trainees (opened b).0 → lists ≡ flat_map measured (drop i (opened b).0.lists) ++ section single (opened b).1 → Stands (opened b).0.lists (section single (opened b).1) lists i
walked b lists i l e = stands (opened b).0.lists (section single (opened b).1) lists i l e

pub slice_bounds-lists-count : goal.slice_bounds-lists-count
slice_bounds-lists-count c =
    let s = c.args.self.now in
    let b = s.bytes.now in
    let some : 0 < trainees (opened b).0 = omega (arith, c.trainees.ensures) in
    let w = walked b _ 0 some (lists_at b s.fits some) in
    omega (arith, w.within, length-drop (4 + 2 * c.practices.result) b, ap (λ (m : ℕ). length (drop (4 + 2 * m) b)) c.practices.ensures)

pub slice_bounds-lists-start : goal.slice_bounds-lists-start
slice_bounds-lists-start c =
    let h = slice_bounds-lists-count c in search rules

pub loop-init : goal.loop-init
loop-init c =
    let s = c.args.self.now in
    let b = s.bytes.now in
    take_rest b (4 + 2 * c.practices.result) ∙ ap (λ (m : ℕ). drop (4 + 2 * m) b) c.practices.ensures ∙ lists_at b s.fits (omega (arith, c.trainees.ensures))

pub slice_bounds-lists-count-in-loop : goal.slice_bounds-lists-count-in-loop
slice_bounds-lists-count-in-loop c =
    (walked c.args.self.now.bytes.now c.loop.lists.now c.loop.counter (omega (arith, c.trainees.ensures)) c.loop.invariant).within

pub slice_bounds-lists-start-in-loop : goal.slice_bounds-lists-start-in-loop
slice_bounds-lists-start-in-loop c =
    let h = (walked c.args.self.now.bytes.now c.loop.lists.now c.loop.counter (omega (arith, c.trainees.ensures)) c.loop.invariant).within in search rules

pub loop-preserved : goal.loop-preserved
loop-preserved c =
    let w = walked c.args.self.now.bytes.now c.loop.lists.now c.loop.counter (omega (arith, c.trainees.ensures)) c.loop.invariant in
    take_rest c.loop.lists.now (1 + get_or c.loop.lists.now 0 0) ∙ w.next

pub slice_bounds-result-end-2 : goal.slice_bounds-result-end-2
slice_bounds-result-end-2 c =
    let h = (walked c.args.self.now.bytes.now c.loop.lists.now c.loop.counter (omega (arith, c.trainees.ensures)) c.loop.invariant).within in search rules

pub returns : goal.returns
returns c =
    let b = c.args.self.now.bytes.now in
    let w = walked b c.loop.lists.now c.loop.counter (omega (arith, c.trainees.ensures)) c.loop.invariant in
    let n : 1 + get_or c.loop.lists.now 0 0 - 1 ≡ get_or c.loop.lists.now 0 0 = omega arith in
    let t : c.loop.counter ≡ c.args.t.0 = omega arith in
    ap (λ (k : ℕ). take k (drop 1 c.loop.lists.now)) n ∙ w.here ∙ ap (λ (k : ℕ). get_or (opened b).0.lists k []) t
