-- What a text holds.
use Rattle.std.specs.Prelude.{ℕ, List, take}
use Rattle.texts.specs.declared.text.Text.{Text}

abbrev pub text : Text → List ℕ
text t = t.bytes.items

-- what is past the first 4,096 bytes is dropped
abbrev pub kept : List ℕ → List ℕ
kept bytes = take 4096 bytes
