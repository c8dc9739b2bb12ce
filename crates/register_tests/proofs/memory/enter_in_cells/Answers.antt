use Rattle.std.proofs.Common.{◌≡◌, ℕ, ◌*◌, List, length, Result, sym, refl, ap, ◌∙◌, length-set, rules}
use Rattle.rules.specs.declared.words.Refusal.{Refusal}
use Rattle.rules.specs.Meaning.{trainees, practices, with_list}
use Rattle.rules.specs.Questions.{numbers}
use Rattle.rank_grid.specs.Grid.{grid_meaning}
use Rattle.rank_grid.specs.Ranks.{holding}
use Rattle.rank_grid.proofs.Gridded.{holding_again}
use Rattle.register_tests.specs.After.{just_opened, after}
use Rattle.register_tests.proofs.Left.{left}
use Rattle.register_tests.proofs.memory.enter_in_cells.Goals as goal

pub returns : goal.returns
returns c =
    let memory = c.args.cells.now in
    let xs = numbers c.args.list.now in
    let t = c.args.t.0 in
    let s = c.open.result in
    let n = just_opened c.args.practices c.args.trainees (c.args.trainees * c.args.practices) (length memory) in
    let all : after holding n memory t xs ≡ (c.enter.result, c.enter.new.self.cells.now) =
    left holding (grid_meaning s) n (grid_meaning c.enter.new.self) memory s.cells.now c.enter.new.self.cells.now t xs c.enter.result
    (λ e f q. holding_again e f memory (ap trainees q) (ap practices q), holding_again n.entries (with_list n t xs).entries memory (length-set n.entries.lists t xs) refl)
    c.open.ensures.meaning c.open.ensures.cells c.enter.ensures.enters c.enter.ensures.cells in
    let kept = c.enter.ensures.lent ∙ c.open.ensures.lent in
    let w : c.enter.new.self.cells.now ≡ (after holding n memory t xs).1 = sym (ap (λ (y : Result (Unit {0}) Refusal × List ℕ). y.1) all) in
    record { answer = sym (ap (λ (y : Result (Unit {0}) Refusal × List ℕ). y.0) all); cells = search rules }
