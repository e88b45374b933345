-- What the contract of the TOML parser says, in the words of the definition.
use Rattle.std.proofs.Common.{◌≡◌, List, ℕ, refl, inl, inr, None, Some, Ok, Err}
use Rattle.std.proofs.lemmas.Bool.{cases_Bool, false≢true}
use Rattle.std.proofs.lemmas.Str.{is_utf8-from_IsUtf8, IsUtf8-from_is_utf8}
use Rattle.std.specs.Str.{is_utf8, IsUtf8}
use Rattle.toml.specs.Data.{Members}
use Rattle.toml.specs.Parse.{parse_document}
use Rattle.tomex_document.specs.Document.{members_of}
use Rattle.tomex_values.specs.declared.error.DocumentError.TheVariants.{Syntax}
use Rattle.tomex_document.proofs.document.members_of.Goals as goal

members_of-some : (bytes : List ℕ) (document : Members) → IsUtf8 bytes → parse_document bytes ≡ Some document
    → members_of bytes ≡ Ok document
unfolding members_of
members_of-some bytes document text parsed = rw (is_utf8-from_IsUtf8 bytes text, parsed) refl

members_of-none : (bytes : List ℕ) → (IsUtf8 bytes → parse_document bytes ≡ None) → members_of bytes ≡ Err Syntax
unfolding members_of
members_of-none bytes refused = elim (cases_Bool (is_utf8 bytes)) [
  | inl is_text ↦ rw (is_text, refused (IsUtf8-from_is_utf8 bytes is_text)) refl
  | inr other ↦ rw other refl
]

pub returns-in-Ok : goal.returns-in-Ok
returns-in-Ok c = members_of-some _ _ c.in-Ok.ensures.ok.0 c.in-Ok.ensures.ok.1

pub returns-else-is_memory : goal.returns-else-is_memory
returns-else-is_memory c = λ _. members_of-none _
    (c.in-Err.ensures.refused (λ m. false≢true (c.if-is_memory.ensures.1 m)))
