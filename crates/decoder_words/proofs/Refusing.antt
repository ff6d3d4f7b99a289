-- A refusal's reply, by whether the refusal is 23. Assumes nothing.
use Prim.Native.Nat.{ℕ}
use mathlib.Core.Path.{◌≡◌, refl, sym, ap, ◌∙◌}
use mathlib.Core.List.{List, [], ◌∷◌}
use denote.Enum.Declared.{tag_of}
use types.Run.{OneOf, miss}
use Rattle.decoder_rules.specs.contracts.types.DecodeError.{the_type}
use Rattle.decoder_rules.specs.Numbers.{error_number}
use Rattle.decoder_rules.specs.Run.{Named, nothing, named_by}
use Rattle.decoder_rules.specs.declared.types.Cut.{Cut}
use Rattle.decoder_rules.specs.declared.types.DecodeError.{DecodeError}
use Rattle.decoder_rules.specs.declared.types.DecodeError.TheVariants as error
use Rattle.decoder_rules.specs.declared.types.Refusal.{Refusal}
use Rattle.decoder_words.specs.Replies.{refused_by, plain, cut_reply, naming, refusal_reply}
use Rattle.decoder_words.specs.declared.types.Reply.{Reply}

-- the errors but 23, by their places in the declaration
abbrev pub others : List ℕ
others = 0 ∷ 1 ∷ 2 ∷ 3 ∷ 4 ∷ 5 ∷ 6 ∷ 7 ∷ 8 ∷ 9 ∷ 10 ∷ 11 ∷ 13 ∷ 14 ∷ 15 ∷ []

-- they name nothing
names_nothing : (e : DecodeError) → OneOf others (tag_of the_type e) → nothing ≡ named_by e
names_nothing error.TableShape h = refl
names_nothing error.BadState h = refl
names_nothing error.TooFar h = refl
names_nothing error.AfterFinish h = refl
names_nothing error.InvalidTagData h = refl
names_nothing error.InvalidTagId h = refl
names_nothing error.HierarchyError h = refl
names_nothing error.InvalidTagSize h = refl
names_nothing error.OversizedChildElement h = refl
names_nothing error.TooManyOpen h = refl
names_nothing error.FromUtf8Error h = refl
names_nothing error.ReadF64Mismatch h = refl
names_nothing (error.UnexpectedEOF c) h = absurd (miss others 12 tt h)
names_nothing error.NotAMaster h = refl
names_nothing error.InvalidIdForm h = refl
names_nothing error.UnknownSizePastEnd h = refl

-- n is the refusal's number
module _ (r : Refusal) (events taken : ℕ) {n : ℕ} (e : n ≡ error_number r.error) where
  replied : {x : Named} → x ≡ named_by r.error → naming (refused_by n) events taken r.place x ≡ refusal_reply r events taken
  replied {x} p =
      ap (λ (k : ℕ). naming (refused_by k) events taken r.place x) e
      ∙ ap (naming (refused_by (error_number r.error)) events taken r.place) p

  pub refusal_plain : OneOf others (tag_of the_type r.error) → {o : Reply} → o ≡ plain (refused_by n) events taken r.place 0 → o ≡ refusal_reply r events taken
  refusal_plain h q = q ∙ replied (names_nothing r.error h)

  pub refusal_cut : {c : Cut} → r.error ≡ error.UnexpectedEOF c → {o : Reply} → o ≡ cut_reply (refused_by n) events taken r.place c → o ≡ refusal_reply r events taken
  refusal_cut p q = q ∙ replied (sym (ap named_by p))
