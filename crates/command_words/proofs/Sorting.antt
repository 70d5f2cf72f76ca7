-- What was read of the words behind a command's own, and one word more.
use Rattle.std.proofs.Common.{◌≡◌, ◌+◌, Bool, true, false, ◌||◌, List, [], ◌∷◌, ◌++◌, length, Some, if◌then◌else◌, inl, inr, refl, sym, ap, ◌∙◌}
use Rattle.std.specs.List.{list_any}
use Rattle.std.proofs.lemmas.List.{append_assoc}
use Rattle.std.proofs.lemmas.List.Folds.{list_any-append}
use Rattle.gopass_base.specs.Text.{Text}
use Rattle.command_words.specs.declared.options.Flag.{Flag}
use Rattle.command_words.specs.declared.options.Flags.{Flags}
use Rattle.command_words.specs.declared.verb.Form.{Form}
use Rattle.command_words.specs.declared.kind.Kind.{Kind}
use Rattle.command_words.specs.declared.kind.Kind.TheVariants.{Dashes, Given, Plain}
use Rattle.command_words.specs.Options.{flag_at, no_flags, with}
use Rattle.command_words.specs.Words.{is_dashes, is_option, options, plain_words, with_option, given, kind_at, is_bad, is_bad_behind, first_bad}
use Rattle.command_words.proofs.WordLemmas.{closed_options, closed_plain, dashes_options, dashes_plain, option_options, option_plain, plain_options, plain_plain, given_more, of_dashes, of_option, of_plain}

-- `before` was read and gave these options and plain words, and `after` is left
pub record IsRead (form : Form) (words before after : List Text) (flags : Flags) (plain : List Text) (is_behind : Bool) : Type 0 where
  pub rest : first_bad form before after ≡ first_bad form [] words
  pub whole : before ++ after ≡ words
  pub behind : is_behind ≡ list_any is_dashes before
  pub options_are : flags ≡ given no_flags (options before)
  pub plain_are : plain ≡ plain_words before

or_same : (a b : Bool) → b ≡ false → (a || (b || false)) ≡ a
or_same true b e = refl
or_same false b e = ap (λ x. x || false) e

module _ {form : Form} {words before after : List Text} {word : Text} {flags : Flags} {plain : List Text} {is_behind : Bool} (read : IsRead form words before (word ∷ after) flags plain is_behind) where
  tested : (kind : Kind) → kind_at is_behind word ≡ kind → is_bad_behind form before word ≡ is_bad form flags (length plain) kind
  tested kind is = (λ i. is_bad form (sym read.options_are i) (length (sym read.plain_are i)) (kind_at (sym read.behind i) word)) ∙ ap (is_bad form flags (length plain)) is

  past : (kind : Kind) → kind_at is_behind word ≡ kind → is_bad form flags (length plain) kind ≡ false → first_bad form (before ++ word ∷ []) after ≡ first_bad form [] words
  past kind is good = sym (ap (λ b. if b then Some (length before + 1) else first_bad form (before ++ word ∷ []) after) (tested kind is ∙ good)) ∙ read.rest

  still : (before ++ word ∷ []) ++ after ≡ words
  still = append_assoc before (word ∷ []) after ∙ read.whole

  any_more : list_any is_dashes (before ++ word ∷ []) ≡ (list_any is_dashes before || (is_dashes word || false))
  any_more = list_any-append is_dashes before (word ∷ [])

  or_true : (a : Bool) → (a || (true || false)) ≡ true
  or_true true = refl
  or_true false = refl

  pub read_dashes : kind_at is_behind word ≡ Dashes → is_bad form flags (length plain) Dashes ≡ false → IsRead form words (before ++ word ∷ []) after flags plain true
  read_dashes is good =
      let found = of_dashes is_behind (is_dashes word) (is_option word) (flag_at word) is in
      let none : list_any is_dashes before ≡ false = sym read.behind ∙ found.0 in
      record {
        rest = past Dashes is good;
        whole = still;
        behind = sym (any_more ∙ ap (λ b. list_any is_dashes before || (b || false)) found.1 ∙ or_true (list_any is_dashes before));
        options_are = read.options_are ∙ ap (given no_flags) (sym (dashes_options before word none found.1));
        plain_are = read.plain_are ∙ sym (dashes_plain before word none found.1);
      }

  pub read_option : (flag : Flag) → kind_at is_behind word ≡ Given flag → is_bad form flags (length plain) (Given flag) ≡ false → IsRead form words (before ++ word ∷ []) after (with flags flag) plain is_behind
  read_option flag is good =
      let found = of_option is_behind (is_dashes word) (is_option word) (flag_at word) flag is in
      let none : list_any is_dashes before ≡ false = sym read.behind ∙ found.unclosed in
      record {
        rest = past (Given flag) is good;
        whole = still;
        behind = read.behind ∙ sym (any_more ∙ or_same (list_any is_dashes before) (is_dashes word) found.other);
        options_are = (λ i. with_option (read.options_are i) (sym found.spelled i)) ∙ sym (given_more no_flags (options before) word) ∙ ap (given no_flags) (sym (option_options before word none found.other found.begins));
        plain_are = read.plain_are ∙ sym (option_plain before word none found.other found.begins);
      }

  closed : kind_at is_behind word ≡ Plain → is_bad form flags (length plain) Plain ≡ false → is_behind ≡ true → IsRead form words (before ++ word ∷ []) after flags (plain ++ word ∷ []) is_behind
  closed is good e =
      let some : list_any is_dashes before ≡ true = sym read.behind ∙ e in
      record {
        rest = past Plain is good;
        whole = still;
        behind = e ∙ sym (any_more ∙ ap (λ b. b || (is_dashes word || false)) some);
        options_are = read.options_are ∙ ap (given no_flags) (sym (closed_options before (word ∷ []) some));
        plain_are = ap (λ l. l ++ word ∷ []) read.plain_are ∙ sym (closed_plain before (word ∷ []) some);
      }

  opened : kind_at is_behind word ≡ Plain → is_bad form flags (length plain) Plain ≡ false → (is_behind ≡ false) × (is_dashes word ≡ false) × (is_option word ≡ false) → IsRead form words (before ++ word ∷ []) after flags (plain ++ word ∷ []) is_behind
  opened is good (e, other, isnt) =
      let none : list_any is_dashes before ≡ false = sym read.behind ∙ e in
      record {
        rest = past Plain is good;
        whole = still;
        behind = read.behind ∙ sym (any_more ∙ or_same (list_any is_dashes before) (is_dashes word) other);
        options_are = read.options_are ∙ ap (given no_flags) (sym (plain_options before word none other isnt));
        plain_are = ap (λ l. l ++ word ∷ []) read.plain_are ∙ sym (plain_plain before word none other isnt);
      }

  pub read_plain : kind_at is_behind word ≡ Plain → is_bad form flags (length plain) Plain ≡ false → IsRead form words (before ++ word ∷ []) after flags (plain ++ word ∷ []) is_behind
  read_plain is good = elim (of_plain is_behind (is_dashes word) (is_option word) (flag_at word) is) [ inl e ↦ closed is good e | inr facts ↦ opened is good facts ]
