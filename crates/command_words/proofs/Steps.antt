-- One word more of a list that is read by its places.
use Rattle.std.proofs.Common.{◌≡◌, ℕ, ◌+◌, ◌<◌, nat_lt, Bool, true, false, List, [], ◌∷◌, ◌++◌, length, take, drop, get_or, map, sym, ap, subst, ◌∙◌, arith}
use Rattle.std.proofs.lemmas.List.{take_more, drop_more, map-append, length-map}
use Rattle.std.proofs.lemmas.Bool.{not-false}
use Rattle.std.proofs.lemmas.Bool.Decides.{nat_tests}
use Rattle.gopass_base.specs.Text.{Text}
use Rattle.command_words.specs.declared.options.Flag.{Flag}
use Rattle.command_words.specs.declared.options.Flags.{Flags}
use Rattle.command_words.specs.declared.verb.Form.{Form}
use Rattle.command_words.specs.declared.kind.Kind.{Kind}
use Rattle.command_words.specs.declared.kind.Kind.TheVariants.{Dashes, Given, Plain}
use Rattle.command_words.specs.Options.{with}
use Rattle.command_words.specs.Words.{kind_at, is_bad}
use Rattle.command_words.proofs.Sorting.{IsRead, read_dashes, read_option, read_plain}

module _ {A : Type 0} (f : A → Text) (items : List A) (n : ℕ) (x : A) (lt : n < length items) (is : x ≡ get_or items n x) {form : Form} {flags : Flags} {plain : List Text} {is_behind : Bool} (read : IsRead form (map f items) (map f (take n items)) (map f (drop n items)) flags plain is_behind) where
  here : IsRead form (map f items) (map f (take n items)) (f x ∷ map f (drop (n + 1) items)) flags plain is_behind
  here = subst (λ (l : List Text). IsRead form (map f items) (map f (take n items)) l flags plain is_behind) (ap (map f) (drop_more items n x lt ∙ ap (λ y. y ∷ drop (n + 1) items) (sym is))) read

  more : map f (take n items) ++ f x ∷ [] ≡ map f (take (n + 1) items)
  more = sym (ap (map f) (take_more items n x lt ∙ ap (λ y. take n items ++ y ∷ []) (sym is)) ∙ map-append f (take n items) (x ∷ []))

  moved : (flags' : Flags) (plain' : List Text) (is_behind' : Bool) → IsRead form (map f items) (map f (take n items) ++ f x ∷ []) (map f (drop (n + 1) items)) flags' plain' is_behind' → IsRead form (map f items) (map f (take (n + 1) items)) (map f (drop (n + 1) items)) flags' plain' is_behind'
  moved flags' plain' is_behind' next = subst (λ (l : List Text). IsRead form (map f items) l (map f (drop (n + 1) items)) flags' plain' is_behind') more next

  pub next_dashes : kind_at is_behind (f x) ≡ Dashes → is_bad form flags (length plain) Dashes ≡ false → IsRead form (map f items) (map f (take (n + 1) items)) (map f (drop (n + 1) items)) flags plain true
  next_dashes at good = moved flags plain true (read_dashes here at good)

  pub next_option : (flag : Flag) → kind_at is_behind (f x) ≡ Given flag → is_bad form flags (length plain) (Given flag) ≡ false → IsRead form (map f items) (map f (take (n + 1) items)) (map f (drop (n + 1) items)) (with flags flag) plain is_behind
  next_option flag at good = moved (with flags flag) plain is_behind (read_option here flag at good)

  pub next_plain : kind_at is_behind (f x) ≡ Plain → is_bad form flags (length plain) Plain ≡ false → IsRead form (map f items) (map f (take (n + 1) items)) (map f (drop (n + 1) items)) flags (plain ++ f x ∷ []) is_behind
  next_plain at good = moved flags (plain ++ f x ∷ []) is_behind (read_plain here at good)

-- what was tested of the number of words is so of the words
pub counted : {A : Type 0} (f : A → Text) (items : List A) (form : Form) (flags : Flags) (number : ℕ) (kind kind' : Kind) (tested answer : Bool) → tested ≡ is_bad form flags number kind → tested ≡ answer → number ≡ length items → kind ≡ kind' → is_bad form flags (length (map f items)) kind' ≡ answer
counted f items form flags number kind kind' tested answer is so same turned =
    (λ i. is_bad form flags ((length-map items f ∙ sym same) i) (sym turned i)) ∙ sym is ∙ so

-- there is room for one plain word more
pub room : {A : Type 0} (f : A → Text) (items : List A) (form : Form) (flags : Flags) → is_bad form flags (length (map f items)) Plain ≡ false → length items < form.most
room f items form flags good =
    let below : nat_lt (length (map f items)) form.most ≡ true = not-false (nat_lt (length (map f items)) form.most) good in
    grind (arith, nat_tests, length-map items f)
