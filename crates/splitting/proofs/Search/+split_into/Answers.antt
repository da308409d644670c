use Rattle.std.proofs.Common.{refl, ap, ◌∙◌, ◌-◌, arith, set}
use Rattle.models.specs.Iterator.{longest_of}
use Rattle.models.proofs.SplitCode.{start_before, stores_none, stores_missing, stores_less, stores_more}
use Rattle.splitting.proofs.Search.+split_into.Goals as goal

pub returns-then-k-eq0 : goal.returns-then-k-eq0
returns-then-k-eq0 t c =
    let p = c.args in
    let s = p.self.now in
    stores_none s.rows.now s.radii.radius.now s.radii.held.n (longest_of s.radii.held.n s.radii.held.longest.0) p.i.0 p.ends.now p.k c.if-k-eq0.true

pub split_into-requires : goal.split_into-requires
split_into-requires t c =
    let p = c.args in
    let s = p.self.now in
    let l = start_before s.rows.now s.radii.radius.now s.radii.held.n (longest_of s.radii.held.n s.radii.held.longest.0) (p.k - 1) p.i.0 _ c.in-Some.ensures in
    (omega arith, (omega arith, omega arith))

pub returns-then-split_into : goal.returns-then-split_into
returns-then-split_into t c =
    let p = c.args in
    let s = p.self.now in
    stores_more s.rows.now s.radii.radius.now s.radii.held.n (longest_of s.radii.held.n s.radii.held.longest.0) p.i.0 p.ends.now p.k (omega arith)
    _ c.in-Some.ensures c.split_into.result p.i.0 _ _ c.split_into.ensures c.if-split_into.true refl
    (c.store.ensures ∙ ap (λ x. set c.split_into.new.ends x p.i.0) c.from.ensures)

pub returns-in_default : goal.returns-in_default
returns-in_default t c =
    let p = c.args in
    let s = p.self.now in
    stores_missing s.rows.now s.radii.radius.now s.radii.held.n (longest_of s.radii.held.n s.radii.held.longest.0) p.i.0 p.ends.now p.k (omega arith)
    c.in_default.ensures

pub returns : goal.returns
returns t c =
    let p = c.args in
    let s = p.self.now in
    stores_less s.rows.now s.radii.radius.now s.radii.held.n (longest_of s.radii.held.n s.radii.held.longest.0) p.i.0 p.ends.now p.k (omega arith)
    _ c.in-Some.ensures c.split_into.result _ c.split_into.ensures c.if-split_into.false
