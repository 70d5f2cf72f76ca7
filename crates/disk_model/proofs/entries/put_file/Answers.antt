use Rattle.std.proofs.Common.{◌≡◌, ◌≢◌, ◌<◌, ◌∙◌, ℕ, List, Vec, Global, true, length, get_or, ap, subst, arith}
use Rattle.gopass_base.specs.Text.{Text}
use Rattle.disk_model.specs.Entries.{entries_of}
use Rattle.disk_model.proofs.EntryLemmas.{IsPlace, put_new, put_over}
use Rattle.disk_model.proofs.entries.put_file.Goals as goal

abbrev Held : Type 0
Held = List (Text × Vec ℕ Global)

pub index_mut-requires : goal.index_mut-requires
index_mut-requires c =
    let here = (c.is_at.ensures (c.args.path, c.args.bytes)).0 c.if-is_at.true in
    omega (arith, here.0, c.deref-2.ensures.len)

pub returns-then-is_at-clause-put : goal.returns-then-is_at-clause-put
returns-then-is_at-clause-put c =
    let at = c.place_of-at.result in
    let place : IsPlace c.args.path c.args.bytes c.args.files.now.items at = subst (λ (fs : Held). IsPlace c.args.path c.args.bytes fs at) c.deref.ensures.value (record { within = c.place_of-at.ensures.within; before = c.place_of-at.ensures.before; here = c.place_of-at.ensures.here }) in
    let same : (d : Text × Vec ℕ Global) → (get_or c.args.files.now.items at d).0 ≡ c.args.path = subst (λ (fs : Held). (d : Text × Vec ℕ Global) → (get_or fs at d).0 ≡ c.args.path) c.deref-2.ensures.value (λ d. ((c.is_at.ensures d).0 c.if-is_at.true).1) in
    let here = (c.is_at.ensures (c.args.path, c.args.bytes)).0 c.if-is_at.true in
    let within : at < length c.args.files.now.items = subst (λ (fs : Held). at < length fs) c.deref-2.ensures.value here.0 in
    put_over c.args.path c.args.bytes c.args.files.now.items at place within same

pub returns-clause-put : goal.returns-clause-put
returns-clause-put c =
    let at = c.place_of-at.result in
    let place : IsPlace c.args.path c.args.bytes c.args.files.now.items at = subst (λ (fs : Held). IsPlace c.args.path c.args.bytes fs at) c.deref.ensures.value (record { within = c.place_of-at.ensures.within; before = c.place_of-at.ensures.before; here = c.place_of-at.ensures.here }) in
    let other : (d : Text × Vec ℕ Global) → at < length c.args.files.now.items → (get_or c.args.files.now.items at d).0 ≢ c.args.path =
    subst (λ (fs : Held). (d : Text × Vec ℕ Global) → at < length fs → (get_or fs at d).0 ≢ c.args.path) c.deref-2.ensures.value
    (λ d lt e. let is : c.is_at.result ≡ true = (c.is_at.ensures d).1 (lt, e) in let isnt = c.if-is_at.false in cc) in
    ap entries_of c.in_ok-insert.ensures.items ∙ put_new c.args.path c.args.bytes c.args.files.now.items at place other
