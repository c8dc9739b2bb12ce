use Rattle.std.proofs.Common.{rules, ◌≡◌, get_or, subst, sym, ◌<◌, ◌≤◌, replicate, None, refl, ap, ⊎_elim, arith}
use Rattle.std.proofs.lemmas.List.{get_or-replicate, get_or_past, length-replicate}
use Rattle.std.proofs.lemmas.Bool.{cases_lt}
use Rattle.voting.specs.Placements.{stored}
use Rattle.assignment.specs.declared.state.PracticeState.{PracticeState}
use Rattle.assignment.specs.declared.state.TraineeState.{TraineeState}
use Rattle.assignment.specs.States.{no_trainee_state, no_practice_state}
use Rattle.assignment.proofs.Starts.{get_or_all}
use Rattle.assignment.proofs.state.State.vacant.Goals as goal

abbrev hopeful : TraineeState
hopeful = record { seat = None; value = 1073741824 }

pub returns : goal.returns
returns c =
    let e : c.default.result ≡ no_practice_state = search rules in
    record {
      newcomer = refl;
      seats = λ t. ⊎_elim (λ (h : t < 400). ap (λ (x : TraineeState). stored x.seat) (get_or-replicate {A = TraineeState} 400 t hopeful no_trainee_state h))
          (λ (h : 400 ≤ t). ap (λ (x : TraineeState). stored x.seat) (get_or_past (replicate 400 hopeful) t no_trainee_state (omega (arith, length-replicate {A = TraineeState} 400 hopeful)))) (cases_lt t 400);
      counts = λ p. subst (λ (x : PracticeState). (get_or (replicate 100 x) p no_practice_state).count ≡ 0) (sym e) (ap (λ (x : PracticeState). x.count) (get_or_all 100 p no_practice_state));
      prices = λ p. subst (λ (x : PracticeState). (get_or (replicate 100 x) p no_practice_state).price ≡ 0) (sym e) (ap (λ (x : PracticeState). x.price) (get_or_all 100 p no_practice_state));
      values = λ t l. ap (λ (x : TraineeState). x.value) (get_or-replicate {A = TraineeState} 400 t hopeful no_trainee_state l);
      modest = λ t. ⊎_elim (λ (h : t < 400). omega (arith, ap (λ (x : TraineeState). x.value) (get_or-replicate {A = TraineeState} 400 t hopeful no_trainee_state h)))
          (λ (h : 400 ≤ t). omega (arith, ap (λ (x : TraineeState). x.value) (get_or_past (replicate 400 hopeful) t no_trainee_state (omega (arith, length-replicate {A = TraineeState} 400 hopeful))))) (cases_lt t 400);
    }
