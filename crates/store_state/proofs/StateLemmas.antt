-- The state is determined by the files.
use Rattle.std.proofs.Common.{◌≡◌, ◌<◌, ℕ, suc, Bool, true, false, ◌&&◌, List, [], ◌∷◌, length, slice_index_or, arith, Option, Some, None, bytes_eq, refl, ap, sym, ◌∙◌, subst}
use Rattle.std.proofs.Math.Path.{fun_ext}
use Rattle.std.specs.Prelude.{option_map}
use Rattle.std.specs.Bool.{Decides}
use Rattle.std.specs.Option.{option_eq}
use Rattle.std.specs.FinMap as map
use Rattle.std.specs.FinMap.{nat_cmp-IsAntisymmetric, slice_cmp-IsAntisymmetric}
use Rattle.std.specs.Cmp.Lexicographic.{pointwise, pointwise_decides}
use Rattle.std.proofs.lemmas.Bool.{and_parts, false≢true}
use Rattle.std.proofs.lemmas.Cmp.{nat_list_cmp_total}
use Rattle.std.proofs.lemmas.Slice.Eq.{bytes_eq-Decides}
use Rattle.gopass_base.specs.Text.{Text}
use Rattle.gopass_base.specs.Order.{IsRising}
use Rattle.mount_table.specs.Names.{IsName}
use Rattle.mount_table.specs.Mounts.{row_at}
use Rattle.mount_table.specs.declared.mounts.Row.{Row}
use Rattle.mount_table.proofs.LineLemmas.{one_text}
use Rattle.disk_model.specs.Files.{Files}
use Rattle.disk_model.specs.Listing.{IsListing}
use Rattle.cipher_port.specs.Tool.{Opens}
use Rattle.recipient_files.specs.Ids.{Ids}
use Rattle.recipient_files.proofs.SetLemmas.{one_set}
use Rattle.store_state.specs.Places.{IsFolderOf, rule_path, secret_path, template_path}
use Rattle.store_state.specs.RuleFiles.{IsRuleOf}
use Rattle.store_state.specs.Tree.{tree_files}
use Rattle.store_state.specs.Survey.{IsCountOf, IsOfFiles}
use Rattle.store_state.specs.Found.{GivesStrange, GivesShadowed}
use Rattle.store_state.specs.declared.kind.Kind.{Kind}
use Rattle.store_state.specs.State.{Cell, Sealed, Broken, State, AreMounts, AreSizes, IsPlaced, StandsFor, cell_of, is_outside, mounts_path}

-- ---- values that tests tell apart

cell_eq : Cell → Cell → Bool
cell_eq (Sealed a) (Sealed b) = pointwise bytes_eq a.to b.to && bytes_eq a.body b.body
cell_eq (Broken a) (Broken b) = bytes_eq a b
cell_eq (Sealed a) (Broken b) = false
cell_eq (Broken a) (Sealed b) = false

cell_tells : (a b : Cell) → Decides (cell_eq a b) (a ≡ b)
unfolding cell_eq
cell_tells (Sealed a) (Sealed b) = (
  λ e. (let tests = and_parts (pointwise bytes_eq a.to b.to) (bytes_eq a.body b.body) e in
      let to = (pointwise_decides bytes_eq-Decides a.to b.to).0 tests.0 in
      let body = (bytes_eq-Decides a.body b.body).0 tests.1 in
      λ i. Sealed (record { to = to i; body = body i })),
  λ e. (let to : a.to ≡ b.to = ap ids e in let body : a.body ≡ b.body = ap body_of e in
      ap (λ t. t && bytes_eq a.body b.body) ((pointwise_decides bytes_eq-Decides a.to b.to).1 to) ∙ (bytes_eq-Decides a.body b.body).1 body),
)
  where
    ids : Cell → List Text
    ids (Sealed c) = c.to
    ids (Broken t) = []

    body_of : Cell → Text
    body_of (Sealed c) = c.body
    body_of (Broken t) = t
cell_tells (Broken a) (Broken b) = (λ e. ap Broken ((bytes_eq-Decides a b).0 e), λ e. (bytes_eq-Decides a b).1 (ap text e))
  where
    text : Cell → Text
    text (Sealed c) = c.body
    text (Broken t) = t
cell_tells (Sealed a) (Broken b) = (λ e. absurd (cc), λ e. absurd (cc))
cell_tells (Broken a) (Sealed b) = (λ e. absurd (cc), λ e. absurd (cc))

option_tells : {X : Type 0} (eq : X → X → Bool) → ((x y : X) → Decides (eq x y) (x ≡ y)) → (a b : Option X) → Decides (option_eq eq a b) (a ≡ b)
option_tells eq tells None None = (λ e. refl, λ e. refl)
option_tells eq tells None (Some y) = (λ e. absurd (cc), λ e. absurd (cc))
option_tells eq tells (Some x) None = (λ e. absurd (cc), λ e. absurd (cc))
option_tells eq tells (Some x) (Some y) = (λ e. ap Some ((tells x y).0 e), λ e. (let same : x ≡ y = cc in (tells x y).1 same))

-- what holds where P does and where it does not, holds, if it can be told
either_way : (b : Bool) (P Q : Type 0) → Decides b Q → (P → Q) → (¬ P → Q) → Q
either_way true P Q tells on off = tells.0 refl
either_way false P Q tells on off = off (λ p. absurd (false≢true (tells.1 (on p))))

-- ---- the parts of a state

pub one_table : (root : Text) (file : Option Text) (m n : List Row) → AreMounts root file m → AreMounts root file n → m ≡ n
one_table root None m n h k = h ∙ sym k
one_table root (Some bytes) m n h k = one_text root root m n h.0 k.0 (sym h.1 ∙ k.1)

one_rule : (file : Option Text) (a b : Option Ids) → IsRuleOf file a → IsRuleOf file b → a ≡ b
one_rule None a b h k = h ∙ sym k
one_rule (Some bytes) (Some a) (Some b) h k = ap Some (one_set a b h.rule.set_of.rising k.rule.set_of.rising (λ id. (λ has. (k.rule.set_of.same id).1 ((h.rule.set_of.same id).0 has), λ has. (h.rule.set_of.same id).1 ((k.rule.set_of.same id).0 has))))
one_rule (Some bytes) (Some a) None h k = absurd k
one_rule (Some bytes) None b h k = absurd h

one_rules : (opens : Opens) (root : Text) (files : Files) (a b : State) → a.mounts ≡ b.mounts → StandsFor opens root files a → StandsFor opens root files b → a.rules ≡ b.rules
one_rules opens root files a b same h k = map.same_map nat_list_cmp_total (slice_cmp-IsAntisymmetric nat_cmp-IsAntisymmetric) a.rules b.rules (λ folder.
    either_way (option_eq (pointwise bytes_eq) (map.get a.rules folder) (map.get b.rules folder)) ((k : ℕ) × IsFolderOf a.mounts k folder) (map.get a.rules folder ≡ map.get b.rules folder)
    (option_tells (pointwise bytes_eq) (pointwise_decides bytes_eq-Decides) (map.get a.rules folder) (map.get b.rules folder))
    (λ (n, here). one_rule (files (rule_path a.mounts n folder)) (map.get a.rules folder) (map.get b.rules folder) (h.rules.rule folder n here)
    (subst (λ (mounts : List Row). IsRuleOf (files (rule_path mounts n folder)) (map.get b.rules folder)) (sym same) (k.rules.rule folder n (subst (λ (mounts : List Row). IsFolderOf mounts n folder) same here))))
    (λ other. h.rules.no_rule folder other ∙ sym (k.rules.no_rule folder (subst (λ (mounts : List Row). ¬ ((k : ℕ) × IsFolderOf mounts k folder)) same other))))

one_rows : (opens : Opens) (root : Text) (files : Files) (a b : State) → a.mounts ≡ b.mounts → StandsFor opens root files a → StandsFor opens root files b → a.rows ≡ b.rows
one_rows opens root files a b same h k = map.same_map nat_list_cmp_total (slice_cmp-IsAntisymmetric nat_cmp-IsAntisymmetric) a.rows b.rows (λ name.
    either_way (option_eq cell_eq (map.get a.rows name) (map.get b.rows name)) (IsName name) (map.get a.rows name ≡ map.get b.rows name)
    (option_tells cell_eq cell_tells (map.get a.rows name) (map.get b.rows name))
    (λ good. h.secrets.row name good ∙ (ap (λ mounts. option_map (cell_of opens) (files (secret_path mounts name))) same ∙ sym (k.secrets.row name good)))
    (λ other. h.secrets.no_row name other ∙ sym (k.secrets.no_row name other)))

one_templates : (opens : Opens) (root : Text) (files : Files) (a b : State) → a.mounts ≡ b.mounts → StandsFor opens root files a → StandsFor opens root files b → a.templates ≡ b.templates
one_templates opens root files a b same h k = map.same_map nat_list_cmp_total (slice_cmp-IsAntisymmetric nat_cmp-IsAntisymmetric) a.templates b.templates (λ folder.
    either_way (option_eq bytes_eq (map.get a.templates folder) (map.get b.templates folder)) ((k : ℕ) × IsFolderOf a.mounts k folder) (map.get a.templates folder ≡ map.get b.templates folder)
    (option_tells bytes_eq bytes_eq-Decides (map.get a.templates folder) (map.get b.templates folder))
    (λ (n, here). h.templates.template folder n here ∙ (ap (λ mounts. files (template_path mounts n folder)) same ∙ sym (k.templates.template folder n (subst (λ (mounts : List Row). IsFolderOf mounts n folder) same here))))
    (λ other. h.templates.no_template folder other ∙ sym (k.templates.no_template folder (subst (λ (mounts : List Row). ¬ ((k : ℕ) × IsFolderOf mounts k folder)) same other))))

one_rest : (opens : Opens) (root : Text) (files : Files) (a b : State) → a.mounts ≡ b.mounts → StandsFor opens root files a → StandsFor opens root files b → a.rest ≡ b.rest
one_rest opens root files a b same h k = fun_ext (λ path. by path (is_outside root path) refl)
  where
    inside : (path : Text) → is_outside root path ≡ false → a.rest path ≡ b.rest path
    inside path out = either_way (option_eq bytes_eq (a.rest path) (b.rest path)) (IsPlaced root a.mounts path) (a.rest path ≡ b.rest path)
        (option_tells bytes_eq bytes_eq-Decides (a.rest path) (b.rest path))
        (λ owned. h.rest.owned path owned ∙ sym (k.rest.owned path (subst (λ (mounts : List Row). IsPlaced root mounts path) same owned)))
        (λ other. h.rest.other path other out ∙ sym (k.rest.other path (subst (λ (mounts : List Row). ¬ IsPlaced root mounts path) same other) out))

    by : (path : Text) (t : Bool) → is_outside root path ≡ t → a.rest path ≡ b.rest path
    by path true out = h.rest.outside path out ∙ sym (k.rest.outside path out)
    by path false out = inside path out

-- two listings of one directory are the same
pub one_listing : (files : Files) (dir : Text) (xs ys : List Text) → IsListing files dir xs → IsListing files dir ys → xs ≡ ys
one_listing files dir xs ys a b = one_set xs ys a.rising b.rising (λ path. (λ has. (b.each path).1 ((a.each path).0 has), λ has. (a.each path).1 ((b.each path).0 has)))

one_count : (root : Text) (files : Files) (mounts : List Row) (k m n : ℕ) → IsCountOf root files mounts k m → IsCountOf root files mounts k n → m ≡ n
one_count root files mounts k m n (xs, a, is) (ys, b, is') = is ∙ (ap length (one_listing (tree_files root files) (row_at mounts k).dir xs ys a.listing b.listing) ∙ sym is')

same_list : (xs ys : List ℕ) → length xs ≡ length ys → ((k : ℕ) → k < length xs → slice_index_or xs k 0 ≡ slice_index_or ys k 0) → xs ≡ ys
same_list [] [] long each = refl
same_list [] (y ∷ ys) long each = absurd (omega (arith, long))
same_list (x ∷ xs) [] long each = absurd (omega (arith, long))
same_list (x ∷ xs) (y ∷ ys) long each =
    let first : x ≡ y = each 0 (omega arith) in
    let rest : xs ≡ ys = same_list xs ys (omega (arith, long)) (λ k lt. each (suc k) (omega (arith, lt))) in
    λ i. first i ∷ rest i

one_sizes : (opens : Opens) (root : Text) (files : Files) (a b : State) → a.mounts ≡ b.mounts → StandsFor opens root files a → StandsFor opens root files b → a.sizes ≡ b.sizes
one_sizes opens root files a b same h k =
    let theirs = subst (λ (mounts : List Row). AreSizes root files mounts b.sizes) (sym same) k.sizes_are in
    same_list a.sizes b.sizes (h.sizes_are.as_many ∙ sym theirs.as_many) (λ n lt.
    (let inside : n < length a.mounts = omega (arith, lt, h.sizes_are.as_many) in
    one_count root files a.mounts n (slice_index_or a.sizes n 0) (slice_index_or b.sizes n 0) (h.sizes_are.each n inside) (theirs.each n inside)))

-- two rising lists of what the files give are the same
one_apart : (Gives : Kind → Text → Text → Type 0) (root : Text) (files : Files) (m n : List Row) (xs ys : List Text) → m ≡ n → IsRising xs → IsRising ys
    → IsOfFiles Gives root files m (length m) xs → IsOfFiles Gives root files n (length n) ys → xs ≡ ys
one_apart Gives root files m n xs ys same up upper a b =
    let theirs = subst (λ (mounts : List Row). IsOfFiles Gives root files mounts (length mounts) ys) (sym same) b in
    one_set xs ys up upper (λ path. (λ has. (theirs path).1 ((a path).0 has), λ has. (a path).1 ((theirs path).0 has)))

pub one_state : (opens : Opens) (root : Text) (files : Files) (a b : State) → StandsFor opens root files a → StandsFor opens root files b → a ≡ b
one_state opens root files a b h k =
    let mounts = one_table root (files (mounts_path root)) a.mounts b.mounts h.mounts_are k.mounts_are in
    let rules = one_rules opens root files a b mounts h k in
    let rows = one_rows opens root files a b mounts h k in
    let templates = one_templates opens root files a b mounts h k in
    let sizes = one_sizes opens root files a b mounts h k in
    let rest = one_rest opens root files a b mounts h k in
    let strange = one_apart GivesStrange root files a.mounts b.mounts a.strange b.strange mounts h.apart.strange_rise k.apart.strange_rise h.apart.strange k.apart.strange in
    let shadowed = one_apart GivesShadowed root files a.mounts b.mounts a.shadowed b.shadowed mounts h.apart.shadowed_rise k.apart.shadowed_rise h.apart.shadowed k.apart.shadowed in
    λ i. record { mounts = mounts i; rules = rules i; rows = rows i; templates = templates i; sizes = sizes i; rest = rest i; strange = strange i; shadowed = shadowed i }
