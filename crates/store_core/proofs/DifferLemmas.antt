-- Entries that differ, by their keys.
use Rattle.std.proofs.Common.{◌≡◌, Bool, true, false, not, ◌&&◌, ◌||◌, inl, inr, List, [], ◌∷◌, ◌++◌, refl, ap, sym, ◌∙◌, subst, bytes_eq}
use Rattle.std.specs.Prelude.{◌↔◌, IsTrue, map}
use Rattle.std.specs.List.{list_any}
use Rattle.gopass_base.specs.Text.{Text}
use Rattle.disk_model.proofs.FileLemmas.{cases_path, same_path, other_path}
use Rattle.store_core.specs.declared.edit.Edit.{Edit}
use Rattle.store_core.specs.Edit.{AreOfOne, Differ, Entry, IsApartFrom}
use Rattle.store_core.specs.Entries.{entries_in, rule_entry, rules_in, secret_entry, secrets_in, template_entry, templates_in}
use Rattle.store_core.specs.Once.{each_once}

-- ---- lists behind one another

-- each of these is apart from each of those
AreApart : List Entry → List Entry → Type 0
AreApart [] ys = Unit {0}
AreApart (x ∷ xs) ys = IsApartFrom x ys × AreApart xs ys

apart_join : (entry : Entry) (xs ys : List Entry) → IsApartFrom entry xs → IsApartFrom entry ys → IsApartFrom entry (xs ++ ys)
apart_join entry [] ys left right = right
apart_join entry (x ∷ xs) ys left right = (left.0, apart_join entry xs ys left.1 right)

apart_left : (entry : Entry) (xs ys : List Entry) → IsApartFrom entry (xs ++ ys) → IsApartFrom entry xs
apart_left entry [] ys apart = tt
apart_left entry (x ∷ xs) ys apart = (apart.0, apart_left entry xs ys apart.1)

differ_join : (xs ys : List Entry) → Differ xs → Differ ys → AreApart xs ys → Differ (xs ++ ys)
unfolding AreApart
differ_join [] ys left right apart = right
differ_join (x ∷ xs) ys left right apart = (apart_join x xs ys left.0 apart.0, differ_join xs ys left.1 right apart.1)

differ_left : (xs ys : List Entry) → Differ (xs ++ ys) → Differ xs
differ_left [] ys differ = tt
differ_left (x ∷ xs) ys differ = (apart_left x xs ys differ.0, differ_left xs ys differ.1)

differ_right : (xs ys : List Entry) → Differ (xs ++ ys) → Differ ys
differ_right [] ys differ = differ
differ_right (x ∷ xs) ys differ = differ_right xs ys differ.1

-- ---- entries of different kinds

apart_from_each : {B : Type 0} (other : B → Entry) (items : List B) (entry : Entry) → ((item : B) → ¬ AreOfOne entry (other item)) → IsApartFrom entry (map other items)
apart_from_each other [] entry none = tt
apart_from_each other (item ∷ items) entry none = (none item, apart_from_each other items entry none)

all_apart : {A : Type 0} (entry : A → Entry) (items : List A) (ys : List Entry) → ((item : A) → IsApartFrom (entry item) ys) → AreApart (map entry items) ys
unfolding AreApart
all_apart entry [] ys each = tt
all_apart entry (item ∷ items) ys each = (each item, all_apart entry items ys each)

-- ---- entries of one kind

both : (a b : Bool) → (not a && b) ≡ true → (a ≡ false) × (b ≡ true)
both true b e = absurd (cc)
both false b e = (refl, e)

module _ {V : Type 0} (entry : Text × V → Entry) (same : (a b : Text × V) → AreOfOne (entry a) (entry b) ↔ (a.0 ≡ b.0)) where
  has : Text × V → List (Text × V) → Bool
  has pair pairs = list_any (λ other. bytes_eq other.0 pair.0) pairs

  apart_of : (pair : Text × V) (pairs : List (Text × V)) → has pair pairs ≡ false → IsApartFrom (entry pair) (map entry pairs)
  unfolding has
  apart_of pair [] none = tt
  apart_of pair (other ∷ pairs) none = elim (cases_path other.0 pair.0) [
    | inl is ↦ absurd (let bad : true ≡ false = sym (ap (λ b. b || has pair pairs) (subst (λ (t : Text). bytes_eq other.0 t ≡ true) is (same_path other.0))) ∙ none in cc)
    | inr differ ↦ (λ one. differ (sym ((same pair other).0 one)), apart_of pair pairs (sym (ap (λ b. b || has pair pairs) (other_path other.0 pair.0 differ)) ∙ none))
  ]

  none_of : (pair : Text × V) (pairs : List (Text × V)) → IsApartFrom (entry pair) (map entry pairs) → has pair pairs ≡ false
  unfolding has
  none_of pair [] apart = refl
  none_of pair (other ∷ pairs) apart = ap (λ b. b || has pair pairs) (other_path other.0 pair.0 (λ is. apart.0 ((same pair other).1 (sym is)))) ∙ none_of pair pairs apart.1

  once_differ : (pairs : List (Text × V)) → each_once bytes_eq pairs ≡ true → Differ (map entry pairs)
  unfolding has
  once_differ [] once = tt
  once_differ (pair ∷ pairs) once = let parts = both (has pair pairs) (each_once bytes_eq pairs) once in (apart_of pair pairs parts.0, once_differ pairs parts.1)

  differ_once : (pairs : List (Text × V)) → Differ (map entry pairs) → each_once bytes_eq pairs ≡ true
  unfolding has
  differ_once [] differ = refl
  differ_once (pair ∷ pairs) differ = ap (λ b. not b && each_once bytes_eq pairs) (none_of pair pairs differ.0) ∙ differ_once pairs differ.1

-- ---- an edit

-- its rules, its secrets and its templates are each there once
record AreOnce (edit : Edit) : Type 0 where
  rules : each_once bytes_eq edit.rules.items ≡ true
  secrets : each_once bytes_eq edit.secrets.items ≡ true
  templates : each_once bytes_eq edit.templates.items ≡ true

once_all_differ : (edit : Edit) → AreOnce edit → Differ (entries_in edit)
once_all_differ edit once =
    let secrets = secrets_in edit.secrets.items in
    let templates = templates_in edit.templates.items in
    differ_join (rules_in edit.rules.items) (secrets ++ templates) (once_differ rule_entry (λ a b. (λ is. is, λ is. is)) edit.rules.items once.rules)
    (differ_join secrets templates (once_differ secret_entry (λ a b. (λ is. is, λ is. is)) edit.secrets.items once.secrets) (once_differ template_entry (λ a b. (λ is. is, λ is. is)) edit.templates.items once.templates)
    (all_apart secret_entry edit.secrets.items templates (λ secret. apart_from_each template_entry edit.templates.items (secret_entry secret) (λ template bad. bad))))
    (all_apart rule_entry edit.rules.items (secrets ++ templates) (λ rule. apart_join (rule_entry rule) secrets templates
    (apart_from_each secret_entry edit.secrets.items (rule_entry rule) (λ secret bad. bad))
    (apart_from_each template_entry edit.templates.items (rule_entry rule) (λ template bad. bad))))

differ_all_once : (edit : Edit) → Differ (entries_in edit) → AreOnce edit
differ_all_once edit differ =
    let secrets = secrets_in edit.secrets.items in
    let templates = templates_in edit.templates.items in
    let others = differ_right (rules_in edit.rules.items) (secrets ++ templates) differ in
    record {
      rules = differ_once rule_entry (λ a b. (λ is. is, λ is. is)) edit.rules.items (differ_left (rules_in edit.rules.items) (secrets ++ templates) differ);
      secrets = differ_once secret_entry (λ a b. (λ is. is, λ is. is)) edit.secrets.items (differ_left secrets templates others);
      templates = differ_once template_entry (λ a b. (λ is. is, λ is. is)) edit.templates.items (differ_right secrets templates others);
    }

-- ---- what a test of one kind after the other tells

not_true : false ≡ true → ⊥
not_true e = cc

pub rules_twice : (edit : Edit) (once : Bool) → once ≡ each_once bytes_eq edit.rules.items → once ≡ false → IsTrue false ↔ Differ (entries_in edit)
rules_twice edit once is off = (λ bad. absurd (not_true bad), λ differ. sym off ∙ (is ∙ (differ_all_once edit differ).rules))

pub secrets_twice : (edit : Edit) (once : Bool) → once ≡ each_once bytes_eq edit.secrets.items → once ≡ false → IsTrue false ↔ Differ (entries_in edit)
secrets_twice edit once is off = (λ bad. absurd (not_true bad), λ differ. sym off ∙ (is ∙ (differ_all_once edit differ).secrets))

pub templates_left : (edit : Edit) (rules secrets templates : Bool) → rules ≡ each_once bytes_eq edit.rules.items → rules ≡ true → secrets ≡ each_once bytes_eq edit.secrets.items → secrets ≡ true
    → templates ≡ each_once bytes_eq edit.templates.items → IsTrue templates ↔ Differ (entries_in edit)
templates_left edit rules secrets templates r first s second t = (
  λ on. once_all_differ edit (record { rules = sym r ∙ first; secrets = sym s ∙ second; templates = sym t ∙ on }),
  λ differ. t ∙ (differ_all_once edit differ).templates,
)
