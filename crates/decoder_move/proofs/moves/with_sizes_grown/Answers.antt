-- `decoder_move::moves::with_sizes_grown`. The invariant: the first i masters have grown, and all else is as it was.
-- Assumes nothing.
use mathlib.Core.Path.{◌≡◌, refl, ap, ◌∙◌}
use native.Mathlib.Omega.{arith}
use borrow.Author.Rules.{rules}
use lib.ListN.{get_or, length-take}
use lib.Seq.{get_or-take}
use Rattle.spec_util.specs.Walk.{no_tag}
use Rattle.decoder_rules.specs.OneCall.{good_open}
use Rattle.decoder_rules.specs.Record.{opens, with_open, size_grown, with_sizes_grown}
use Rattle.basics.proofs.ArrayOf32.{length_of_map, changed, changed_at, changed_next}
use Rattle.basics.proofs.Every.{every_at}
use Rattle.decoder_rules.proofs.GoodState.{good_open_lem}
use Rattle.decoder_move.proofs.moves.with_sizes_grown.Goals as goal

pub loop-i-init : goal.loop-i-init
unfolding with_open changed
loop-i-init c = (omega arith, search (rules, length_of_map), refl)

pub size_grown-requires : goal.size_grown-requires
unfolding with_open
size_grown-requires c =
    let as_it_was : get_or c.loop-i.d.«open» c.loop-i.i no_tag ≡ get_or c.args.d.«open» c.loop-i.i no_tag = rw c.loop-i.invariant.2 (changed_at (size_grown c.args.n) _ _ no_tag (omega arith)) in
    let d = c.args.d in
    let i = c.loop-i.i in
    let t = every_at (good_open d.position) (opens d) no_tag c.requires.3 i (simp length-take (omega arith)) in
    let g = good_open_lem d.position (get_or d.«open» i no_tag) (rw (get_or-take d.open_count d.«open» i no_tag (omega arith)) at t) in
    rw as_it_was (λ k. omega (arith, g.size k))

pub loop-i-preserved : goal.loop-i-preserved
unfolding with_open
loop-i-preserved c =
    let as_it_was : get_or c.loop-i.d.«open» c.loop-i.i no_tag ≡ get_or c.args.d.«open» c.loop-i.i no_tag = rw c.loop-i.invariant.2 (changed_at (size_grown c.args.n) _ _ no_tag (omega arith)) in
    let d = c.args.d in
    let i = c.loop-i.i in
    let h = c.loop-i.invariant in
    let m : c.size_grown.result ≡ size_grown c.args.n (get_or d.«open» i no_tag) = c.size_grown.ensures ∙ ap (size_grown c.args.n) as_it_was in
    (omega arith, h.1, rw (h.2, m, changed_next (size_grown c.args.n) i d.«open» no_tag (omega arith)))

pub returns : goal.returns
unfolding with_open changed with_sizes_grown
returns c =
    let e : c.loop-i.i ≡ c.args.d.open_count = omega arith in
    rw e at c.loop-i.invariant.2
