-- The causes that errors name.
use Rattle.std.proofs.Common.{◌≡◌, refl, sym, ap, ◌∙◌, Option, None, Some}
use Rattle.prefix_model.specs.declared.Cause.{Cause}
use Rattle.prefix_model.specs.declared.Cause.TheVariants as cause
use Rattle.prefix_layout.specs.Errors.{error_of}
use Rattle.prefix_layout.specs.declared.error.ArchiveError.{ArchiveError}
use Rattle.prefix_layout.specs.declared.error.ArchiveError.TheVariants.{Truncated, TrailingBytes, InvalidValue, MissingRootNode, NodeListTooLong, NodeListTooShort, NodeListInconsistent, DataListInconsistent, DataListTooShort, DataListTooLong, ContainsEmptyNode, DepthExceedsPrefixRepr}

-- the cause that an error names
abbrev pub cause_of : ArchiveError → Option Cause
cause_of Truncated = Some cause.Truncated
cause_of TrailingBytes = Some cause.TrailingBytes
cause_of InvalidValue = Some cause.InvalidValue
cause_of MissingRootNode = Some cause.MissingRootNode
cause_of NodeListTooLong = Some cause.NodeListTooLong
cause_of NodeListTooShort = Some cause.NodeListTooShort
cause_of NodeListInconsistent = Some cause.NodeListInconsistent
cause_of DataListInconsistent = Some cause.DataListInconsistent
cause_of DataListTooShort = Some cause.DataListTooShort
cause_of DataListTooLong = Some cause.DataListTooLong
cause_of ContainsEmptyNode = Some cause.ContainsEmptyNode
cause_of DepthExceedsPrefixRepr = Some cause.DepthExceedsPrefixRepr
cause_of _ = None

named_cause : (e : Cause) → cause_of (error_of e) ≡ Some e
named_cause cause.Truncated = refl
named_cause cause.TrailingBytes = refl
named_cause cause.InvalidValue = refl
named_cause cause.MissingRootNode = refl
named_cause cause.NodeListTooLong = refl
named_cause cause.NodeListTooShort = refl
named_cause cause.NodeListInconsistent = refl
named_cause cause.DataListInconsistent = refl
named_cause cause.DataListTooShort = refl
named_cause cause.DataListTooLong = refl
named_cause cause.ContainsEmptyNode = refl
named_cause cause.DepthExceedsPrefixRepr = refl

-- causes with one error are one
pub error_tells : (a b : Cause) → error_of a ≡ error_of b → a ≡ b
error_tells a b e = let h : Some a ≡ Some b = sym (named_cause a) ∙ (ap cause_of e ∙ named_cause b) in cc

-- an error that names no cause
pub names_none : (a : Cause) (e : ArchiveError) → cause_of e ≡ None → e ≡ error_of a → ⊥
names_none a e none h = let k : None ≡ Some a = sym none ∙ (ap cause_of h ∙ named_cause a) in cc
