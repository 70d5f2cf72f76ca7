use Rattle.std.proofs.Common.{◌≡◌, ◌≢◌, ◌∷◌, ◌++◌, [], List, ℕ, ◌+◌, ◌-◌, length, get_or, take, cond, sym, ◌∙◌, ap, refl, arith, eq-eqb, ne_eqb, lit<}
use Rattle.std.specs.Prelude.{Some, None}
use Rattle.std.proofs.lemmas.List.{take_at, get_or_at, length_push, take_more, take_all}
use Rattle.std.proofs.lemmas.Str.Pattern.{strip_suffix_char}
use Rattle.mount_table.specs.Folders.{without_slash}
use Rattle.mount_table.proofs.folder.without_slash.Goals as goal

with_slash : (bs front : List ℕ) → bs ≡ front ++ 47 ∷ [] → without_slash bs ≡ front
with_slash bs front e =
    let n : length front ≡ length bs - 1 = omega (arith, ap length e, length_push front 47) in
    let last : get_or bs (length bs - 1) 0 ≡ 47 = ap (λ t. get_or t (length bs - 1) 0) e ∙ get_or_at front 47 [] 0 (length bs - 1) n in
    ap (λ b. cond b (take (length bs - 1) bs) bs) (eq-eqb (get_or bs (length bs - 1) 0) 47 last)
    ∙ (ap (take (length bs - 1)) e ∙ take_at front (47 ∷ []) (length bs - 1) n)

no_slash : (bs : List ℕ) → ((front : List ℕ) → bs ≢ front ++ 47 ∷ []) → without_slash bs ≡ bs
no_slash [] other = refl
no_slash (b ∷ bs) other = ap (λ v. cond v (take (length (b ∷ bs) - 1) (b ∷ bs)) (b ∷ bs)) (ne_eqb (get_or (b ∷ bs) (length (b ∷ bs) - 1) 0) 47 (λ e. other (take (length (b ∷ bs) - 1) (b ∷ bs)) (whole e)))
  where
    whole : get_or (b ∷ bs) (length (b ∷ bs) - 1) 0 ≡ 47 → (b ∷ bs) ≡ take (length (b ∷ bs) - 1) (b ∷ bs) ++ 47 ∷ []
    whole e = sym (take_all (length (b ∷ bs) - 1 + 1) (b ∷ bs) (omega arith)) ∙ (take_more (b ∷ bs) (length (b ∷ bs) - 1) 0 (omega arith) ∙ ap (λ x. take (length (b ∷ bs) - 1) (b ∷ bs) ++ x ∷ []) e)

pub returns-in-Some : goal.returns-in-Some
returns-in-Some c = sym (with_slash c.args.text.now c.in-Some.front.now (strip_suffix_char 47 c.args.text.now (Some c.in-Some.front) c.in-Some.ensures.cases (lit< tt)))

pub returns-in-None : goal.returns-in-None
returns-in-None c = sym (no_slash c.args.text.now (strip_suffix_char 47 c.args.text.now None c.in-None.ensures.cases (lit< tt)))
