-- What code answers that reads at the front of some bytes.
use Rattle.std.specs.Prelude.{◌≡◌, ℕ, zero, suc, ◌<◌, List, length, Ok, Err, Option, Result, IfOk}
use Rattle.rules.specs.declared.words.Reason.{Reason}
use Rattle.rules.specs.declared.words.Refusal.{Refusal}
use Rattle.rules.specs.Refusals.{answer_of}
use Rattle.sheet.specs.declared.unread.Unread.{Unread}
use Rattle.sheet.specs.Reading.{and_then, two, refused}

-- a check of the numbers below `end` answers what is wrong with them
abbrev pub Checks : (ℕ → Result (Unit {0}) Reason → Type 0) → ℕ → (ℕ → Option Reason) → Type 0
Checks answers end wrong = (n : ℕ) (r : Result (Unit {0}) Reason) → n < end → answers n r → r ≡ answer_of (wrong n)

-- the bytes behind what was read
abbrev pub left : {X : Type 0} → Result (X × List ℕ) Refusal → Result (List ℕ) Refusal
left (Ok p) = Ok p.1
left (Err e) = Err e

-- a number, and the bytes behind it
abbrev pub told : Result (ℕ × Unread) Refusal → Result (ℕ × List ℕ) Refusal
told (Ok p) = Ok (p.0, p.1.rest.now)
told (Err e) = Err e

abbrev pub rest_told : Result Unread Refusal → Result (List ℕ) Refusal
rest_told (Ok u) = Ok u.rest.now
rest_told (Err e) = Err e

-- what is left behind a number that a check accepts
abbrev pub past : ℕ → List ℕ → Result (Unit {0}) Reason → List ℕ → Result (List ℕ) Refusal
past size bytes (Ok _) rest = Ok rest
past size bytes (Err reason) rest = Err (refused size reason bytes)

-- how many were read, and the bytes behind them
abbrev pub numbered : {X : Type 0} → Result (List X × List ℕ) Refusal → Result (ℕ × List ℕ) Refusal
numbered (Ok p) = Ok (length p.0, p.1)
numbered (Err e) = Err e

-- whether something was read
abbrev pub accepted : {X : Type 0} → Result X Refusal → Result (Unit {0}) Refusal
accepted (Ok x) = Ok tt
accepted (Err e) = Err e

-- code that reads one of a kind goes on in the same sheet
abbrev pub Stays : (Unread → Result Unread Refusal → Type 0) → Type 0
Stays answers = (u : Unread) (r : Result Unread Refusal) → answers u r → IfOk r (λ v. v.size ≡ u.size)

-- and answers, in a sheet of `size` bytes, what is left behind it
abbrev pub Goes : (Unread → Result Unread Refusal → Type 0) → ℕ → (List ℕ → Result (List ℕ) Refusal) → Type 0
Goes answers size next = (u : Unread) (r : Result Unread Refusal) → u.size ≡ size → answers u r → rest_told r ≡ next u.rest.now

-- so many of a kind
abbrev pub times : (List ℕ → Result (List ℕ) Refusal) → ℕ → List ℕ → Result (List ℕ) Refusal
times next zero bytes = Ok bytes
times next (suc n) bytes = and_then (next bytes) (times next n)

-- a section: how many, and then each
abbrev pub section_read : ℕ → (ℕ → Option Reason) → (List ℕ → Result (List ℕ) Refusal) → List ℕ → Result (ℕ × List ℕ) Refusal
section_read size wrong next bytes = and_then (two size wrong bytes) (λ n. and_then (times next n.0 n.1) (λ rest. Ok (n.0, rest)))
