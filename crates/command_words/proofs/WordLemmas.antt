-- One word more behind some words.
use Rattle.std.proofs.Common.{◌≡◌, Bool, true, false, ◌||◌, not, List, [], ◌∷◌, ◌++◌, Option, None, Some, if◌then◌else◌, ◌⊎◌, inl, inr, refl, sym, ap, ◌∙◌}
use Rattle.std.specs.List.{filter, list_any}
use Rattle.std.proofs.lemmas.List.{append-nil, append_assoc}
use Rattle.std.proofs.lemmas.List.Elements.{filter-append}
use Rattle.gopass_base.specs.Text.{Text}
use Rattle.command_words.specs.declared.options.Flag.{Flag}
use Rattle.command_words.specs.declared.options.Flags.{Flags}
use Rattle.command_words.specs.declared.kind.Kind.{Kind}
use Rattle.command_words.specs.declared.kind.Kind.TheVariants.{Dashes, Given, Plain}
use Rattle.command_words.specs.Options.{flag_at}
use Rattle.command_words.specs.Words.{is_dashes, is_option, before_dashes, after_dashes, options, plain_words, with_option, given, kind_of_option}

-- ---- words that have `--` among them
closed_step : (b d : Bool) (word : Text) (xs ys : List Text) → (b || d) ≡ true → (d ≡ true → xs ≡ ys) → (if b then [] else word ∷ xs) ≡ (if b then [] else word ∷ ys)
closed_step true d word xs ys some more = refl
closed_step false d word xs ys some more = ap (λ l. word ∷ l) (more some)

closed_before : (words more : List Text) → list_any is_dashes words ≡ true → before_dashes (words ++ more) ≡ before_dashes words
closed_before [] more some = absurd (cc)
closed_before (word ∷ words) more some = closed_step (is_dashes word) (list_any is_dashes words) word (before_dashes (words ++ more)) (before_dashes words) some (closed_before words more)

closed_after_step : (b d : Bool) (words more xs ys : List Text) → (b || d) ≡ true → (d ≡ true → xs ≡ ys ++ more) → (if b then words ++ more else xs) ≡ (if b then words else ys) ++ more
closed_after_step true d words more xs ys some rest = refl
closed_after_step false d words more xs ys some rest = rest some

closed_after : (words more : List Text) → list_any is_dashes words ≡ true → after_dashes (words ++ more) ≡ after_dashes words ++ more
closed_after [] more some = absurd (cc)
closed_after (word ∷ words) more some = closed_after_step (is_dashes word) (list_any is_dashes words) words more (after_dashes (words ++ more)) (after_dashes words) some (closed_after words more)

-- ---- words that have none
open_step : (b d : Bool) (word : Text) (xs ys zs : List Text) → (b || d) ≡ false → (d ≡ false → xs ≡ ys ++ zs) → (if b then [] else word ∷ xs) ≡ (if b then [] else word ∷ ys) ++ zs
open_step true d word xs ys zs none more = absurd (cc)
open_step false d word xs ys zs none more = ap (λ l. word ∷ l) (more none)

open_before : (words more : List Text) → list_any is_dashes words ≡ false → before_dashes (words ++ more) ≡ before_dashes words ++ before_dashes more
open_before [] more none = refl
open_before (word ∷ words) more none = open_step (is_dashes word) (list_any is_dashes words) word (before_dashes (words ++ more)) (before_dashes words) (before_dashes more) none (open_before words more)

open_after_step : (b d : Bool) (words xs ys : List Text) → (b || d) ≡ false → (d ≡ false → xs ≡ ys) → (if b then words else xs) ≡ ys
open_after_step true d words xs ys none more = absurd (cc)
open_after_step false d words xs ys none more = more none

open_after : (words more : List Text) → list_any is_dashes words ≡ false → after_dashes (words ++ more) ≡ after_dashes more
open_after [] more none = refl
open_after (word ∷ words) more none = open_after_step (is_dashes word) (list_any is_dashes words) (words ++ more) (after_dashes (words ++ more)) (after_dashes more) none (open_after words more)

none_after : (words : List Text) → list_any is_dashes words ≡ false → after_dashes words ≡ []
none_after [] none = refl
none_after (word ∷ words) none = open_after_step (is_dashes word) (list_any is_dashes words) words (after_dashes words) [] none (none_after words)

nothing : (b : Bool) → ◌≡◌ {A = List Text} (if b then [] else []) []
nothing true = refl
nothing false = refl

-- ---- options and plain words
abbrev pub is_plain : Text → Bool
is_plain word = not (is_option word)

pub closed_options : (words more : List Text) → list_any is_dashes words ≡ true → options (words ++ more) ≡ options words
closed_options words more some = ap (filter is_option) (closed_before words more some)

pub closed_plain : (words more : List Text) → list_any is_dashes words ≡ true → plain_words (words ++ more) ≡ plain_words words ++ more
closed_plain words more some =
    (λ i. filter is_plain (closed_before words more some i) ++ closed_after words more some i)
    ∙ sym (append_assoc (filter is_plain (before_dashes words)) (after_dashes words) more)

open_options : (words : List Text) (word : Text) → list_any is_dashes words ≡ false → options (words ++ word ∷ []) ≡ options words ++ filter is_option (before_dashes (word ∷ []))
open_options words word none = ap (filter is_option) (open_before words (word ∷ []) none) ∙ filter-append is_option (before_dashes words) (before_dashes (word ∷ []))

all_before : (words : List Text) → list_any is_dashes words ≡ false → filter is_plain (before_dashes words) ≡ plain_words words
all_before words none = sym (append-nil (filter is_plain (before_dashes words))) ∙ ap (λ l. filter is_plain (before_dashes words) ++ l) (sym (none_after words none))

open_plain : (words : List Text) (word : Text) → list_any is_dashes words ≡ false → plain_words (words ++ word ∷ []) ≡ plain_words words ++ filter is_plain (before_dashes (word ∷ []))
open_plain words word none =
    (λ i. filter is_plain (open_before words (word ∷ []) none i) ++ (open_after words (word ∷ []) none ∙ nothing (is_dashes word)) i)
    ∙ append-nil (filter is_plain (before_dashes words ++ before_dashes (word ∷ [])))
    ∙ filter-append is_plain (before_dashes words) (before_dashes (word ∷ []))
    ∙ ap (λ l. l ++ filter is_plain (before_dashes (word ∷ []))) (all_before words none)

-- one word, by what it is
pub one_dashes : (p : Text → Bool) (word : Text) → is_dashes word ≡ true → filter p (before_dashes (word ∷ [])) ≡ []
one_dashes p word e = ap (λ b. filter p (if b then [] else word ∷ [])) e

one_in : (p : Text → Bool) (word : Text) → is_dashes word ≡ false → p word ≡ true → filter p (before_dashes (word ∷ [])) ≡ word ∷ []
one_in p word e passes = ap (λ b. filter p (if b then [] else word ∷ [])) e ∙ ap (λ b. if b then word ∷ [] else []) passes

one_out : (p : Text → Bool) (word : Text) → is_dashes word ≡ false → p word ≡ false → filter p (before_dashes (word ∷ [])) ≡ []
one_out p word e fails = ap (λ b. filter p (if b then [] else word ∷ [])) e ∙ ap (λ b. if b then word ∷ [] else []) fails

pub dashes_options : (words : List Text) (word : Text) → list_any is_dashes words ≡ false → is_dashes word ≡ true → options (words ++ word ∷ []) ≡ options words
dashes_options words word none e = open_options words word none ∙ ap (λ l. options words ++ l) (one_dashes is_option word e) ∙ append-nil (options words)

pub dashes_plain : (words : List Text) (word : Text) → list_any is_dashes words ≡ false → is_dashes word ≡ true → plain_words (words ++ word ∷ []) ≡ plain_words words
dashes_plain words word none e = open_plain words word none ∙ ap (λ l. plain_words words ++ l) (one_dashes is_plain word e) ∙ append-nil (plain_words words)

pub option_options : (words : List Text) (word : Text) → list_any is_dashes words ≡ false → is_dashes word ≡ false → is_option word ≡ true → options (words ++ word ∷ []) ≡ options words ++ word ∷ []
option_options words word none e is = open_options words word none ∙ ap (λ l. options words ++ l) (one_in is_option word e is)

pub option_plain : (words : List Text) (word : Text) → list_any is_dashes words ≡ false → is_dashes word ≡ false → is_option word ≡ true → plain_words (words ++ word ∷ []) ≡ plain_words words
option_plain words word none e is = open_plain words word none ∙ ap (λ l. plain_words words ++ l) (one_out is_plain word e (ap not is)) ∙ append-nil (plain_words words)

pub plain_options : (words : List Text) (word : Text) → list_any is_dashes words ≡ false → is_dashes word ≡ false → is_option word ≡ false → options (words ++ word ∷ []) ≡ options words
plain_options words word none e isnt = open_options words word none ∙ ap (λ l. options words ++ l) (one_out is_option word e isnt) ∙ append-nil (options words)

pub plain_plain : (words : List Text) (word : Text) → list_any is_dashes words ≡ false → is_dashes word ≡ false → is_option word ≡ false → plain_words (words ++ word ∷ []) ≡ plain_words words ++ word ∷ []
plain_plain words word none e isnt = open_plain words word none ∙ ap (λ l. plain_words words ++ l) (one_in is_plain word e (ap not isnt))

pub given_more : (flags : Flags) (words : List Text) (word : Text) → given flags (words ++ word ∷ []) ≡ with_option (given flags words) (flag_at word)
given_more flags [] word = refl
given_more flags (first ∷ words) word = given_more (with_option flags (flag_at first)) words word

-- ---- what a word is
abbrev kind : Bool → Bool → Bool → Option Flag → Kind
kind b d o found = if b then Plain else if d then Dashes else if o then kind_of_option found else Plain

pub of_dashes : (b d o : Bool) (found : Option Flag) → kind b d o found ≡ Dashes → (b ≡ false) × (d ≡ true)
of_dashes true d o found e = absurd (cc)
of_dashes false true o found e = (refl, refl)
of_dashes false false true None e = absurd (cc)
of_dashes false false true (Some f) e = absurd (cc)
of_dashes false false false found e = absurd (cc)

pub record IsOption (b d o : Bool) (found : Option Flag) (flag : Flag) : Type 0 where
  pub unclosed : b ≡ false
  pub other : d ≡ false
  pub begins : o ≡ true
  pub spelled : found ≡ Some flag

pub of_option : (b d o : Bool) (found : Option Flag) (named : Flag) → kind b d o found ≡ Given named → IsOption b d o found named
of_option true d o found named e = absurd (cc)
of_option false true o found named e = absurd (cc)
of_option false false true None named e = absurd (cc)
of_option false false true (Some f) named e = record { unclosed = refl; other = refl; begins = refl; spelled = cc }
of_option false false false found named e = absurd (cc)

pub of_plain : (b d o : Bool) (found : Option Flag) → kind b d o found ≡ Plain → (b ≡ true) ⊎ ((b ≡ false) × (d ≡ false) × (o ≡ false))
of_plain true d o found e = inl refl
of_plain false true o found e = absurd (cc)
of_plain false false true None e = absurd (cc)
of_plain false false true (Some f) e = absurd (cc)
of_plain false false false found e = inr (refl, refl, refl)
