-- What a change of one seat does to the counts, the votes and feasibility.
use Rattle.std.proofs.Common.{◌≡◌, ℕ, ◌+◌, ◌<◌, ◌≤◌, cond, eqb, length, Some, sym, refl, ap, ◌∙◌, subst, ⊎_elim, arith}
use Rattle.std.proofs.lemmas.Bool.{cases_eq, eq-eqb, ne_eqb}
use Rattle.rules.specs.Meaning.{Entries, trainees, places_of, list_of}
use Rattle.rules.specs.Questions.{position}
use Rattle.voting.specs.Totals.{one}
use Rattle.voting.specs.Placements.{Seat, Placement, Allowed, sits, seated_at, Feasible}
use Rattle.voting.specs.Votes.{prefers, votes, Beats}
use Rattle.voting.proofs.Totals.{total_none, total_change}
use Rattle.voting.proofs.Ranks.{rank, list_on, prefers_yes, prefers_no, prefers_itself}
use Rattle.voting.proofs.Majorities.{more_beats}

-- N is M but for the seat of r
pub record Moved (r : ℕ) (s : Seat) (M N : Placement) : Type 0 where
  pub here : N r ≡ s
  pub else : (t : ℕ) → (t ≡ r → ⊥) → N t ≡ M t

abbrev pub put : Placement → ℕ → Seat → Placement
put M r s t = cond (eqb t r) s (M t)

pub moved_put : (M : Placement) (r : ℕ) (s : Seat) → Moved r s M (put M r s)
moved_put M r s = record { here = rw (eq-eqb r r refl); else = λ t k. rw (ne_eqb t r k) }

pub seated_moved :
    (n r : ℕ) (s : Seat) (M N : Placement) (p : ℕ) → r < n → Moved r s M N →
    seated_at n N p + one (sits (M r) p) ≡ seated_at n M p + one (sits s p)
seated_moved n r s M N p l m =
    total_change n r (λ t. one (sits (M t) p)) (λ t. one (sits (N t) p)) l (λ t _ k. ap (λ x. one (sits x p)) (m.else t k)) ∙
    ap (λ x. seated_at n M p + one (sits x p)) m.here

-- votes for and against the placement O
pub votes_moved :
    (e : Entries) (r : ℕ) (s : Seat) (M N O : Placement) → r < trainees e → Moved r s M N →
    votes e N O + one (prefers (list_of e r) (M r) (O r)) ≡ votes e M O + one (prefers (list_of e r) s (O r))
votes_moved e r s M N O l m =
    total_change (trainees e) r (λ t. one (prefers (list_of e t) (M t) (O t))) (λ t. one (prefers (list_of e t) (N t) (O t))) l
    (λ t _ k. ap (λ x. one (prefers (list_of e t) x (O t))) (m.else t k)) ∙
    ap (λ x. votes e M O + one (prefers (list_of e r) x (O r))) m.here

pub against_moved :
    (e : Entries) (r : ℕ) (s : Seat) (M N O : Placement) → r < trainees e → Moved r s M N →
    votes e O N + one (prefers (list_of e r) (O r) (M r)) ≡ votes e O M + one (prefers (list_of e r) (O r) s)
against_moved e r s M N O l m =
    total_change (trainees e) r (λ t. one (prefers (list_of e t) (O t) (M t))) (λ t. one (prefers (list_of e t) (O t) (N t))) l
    (λ t _ k. ap (λ x. one (prefers (list_of e t) (O t) x)) (m.else t k)) ∙
    ap (λ x. votes e O M + one (prefers (list_of e r) (O r) x)) m.here

pub votes_itself : (e : Entries) (M : Placement) → votes e M M ≡ 0
votes_itself e M =
    total_none (trainees e) (λ t. one (prefers (list_of e t) (M t) (M t))) (λ t l. ap one (prefers_itself (list_of e t) (M t)))

pub allowed_moved :
    (e : Entries) (r : ℕ) (s : Seat) (M N : Placement) → Allowed (list_of e r) s → Moved r s M N →
    ((t : ℕ) → t < trainees e → Allowed (list_of e t) (M t)) → (t : ℕ) → t < trainees e → Allowed (list_of e t) (N t)
allowed_moved e r s M N a m h t l =
    ⊎_elim
    (λ (k : t ≡ r). subst (λ x. Allowed (list_of e x) (N x)) (sym k) (subst (λ x. Allowed (list_of e r) x) (sym m.here) a))
    (λ (k : t ≡ r → ⊥). subst (λ x. Allowed (list_of e t) x) (sym (m.else t k)) (h t l))
    (cases_eq t r)

-- a move that r likes, to a place that is free
pub free_move_beats :
    (e : Entries) (M N : Placement) (r p : ℕ) → Feasible e M → r < trainees e → Moved r (Some p) M N →
    position (list_of e r) p < rank (list_of e r) (M r) → position (list_of e r) p < length (list_of e r) →
    seated_at (trainees e) M p < places_of e p → Feasible e N × Beats e N M
free_move_beats e M N r p f l m better on free =
    (record { allowed = allowed_moved e r (Some p) M N (list_on (list_of e r) p on) m f.allowed; fits = fits }, more_beats e N M beats)
  where
    fits : (q : ℕ) → seated_at (trainees e) N q ≤ places_of e q
    fits q =
        ⊎_elim (λ (k : p ≡ q).
        subst (λ x. seated_at (trainees e) N x ≤ places_of e x) k (omega (arith, seated_moved (trainees e) r (Some p) M N p l m, ap one (eq-eqb p p refl))))
        (λ (k : p ≡ q → ⊥). omega (arith, seated_moved (trainees e) r (Some p) M N q l m, f.fits q, ap one (ne_eqb p q k)))
        (cases_eq p q)

    beats : votes e M N < votes e N M
    beats =
        omega (
          arith,
          votes_itself e M,
          votes_moved e r (Some p) M N M l m,
          ap one (prefers_yes (list_of e r) (Some p) (M r) (list_on (list_of e r) p on) better),
          against_moved e r (Some p) M N M l m,
          ap one (prefers_no (list_of e r) (M r) (Some p) (f.allowed r l) (omega arith)),
        )
