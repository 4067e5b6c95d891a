-- `relations::values::some_pair` meets its contract: a common node is a pair, and no member passed has a partner, as none of its value has.
-- Assumes nothing.
use Rattle.std.proofs.Common.{◌≡◌, refl, sym, ◌∙◌, true, ◌↔◌}
use mathlib.Core.Bool.{false≢true}
use Rattle.nodeset.specs.Set.{lowest_of}
use Rattle.nodeset.specs.Stored.{set_at}
use Rattle.nodeset.specs.Members.{lowest_member}
use Rattle.relations.specs.Tables.{alike_row}
use Rattle.relations.specs.Members.{searched_none, searched_more, searched_all, searched_found, fewer_left}
use Rattle.relations.specs.Values.{Partner, same_partners, common_pair}
use Rattle.relations.proofs.values.some_pair.Goals.{After-alike_to-class, After-has_partner, Else-has_partner}
use Rattle.relations.proofs.values.some_pair.Goals as goal

-- the nodes of the value of the lowest of the rest
class-is : (c : After-alike_to-class)
    → let a = c.args in
    c.alike_to-class.result ≡ set_at a.alike.now (alike_row a.channel (lowest_of c.loop-u.rest))
class-is c = rw c.in-Some.ensures.1 at c.alike_to-class.ensures

pub returns-then-has_common : goal.returns-then-has_common
returns-then-has_common c =
    let a = c.args in record {
      found = λ F rows inside. (λ h. common_pair F a.alike.now a.channel rows a.c a.s a.t inside (c.has_common.ensures.0 c.if-has_common.true), λ h. refl);
    }

pub loop-u-init : goal.loop-u-init
loop-u-init c F rows inside = searched_none _ _

pub alike_to-class-requires : goal.alike_to-class-requires
alike_to-class-requires c = record {
  alike_rows_in_bounds = c.requires.alike_rows_in_bounds;
  channel_le_max_channel = (c.requires.channel_le_max_channel, rw c.in-Some.ensures.1 (lowest_member _ c.in-Some.ensures.0).0);
}

-- what was asked of the lowest of the rest
asks : (c : After-has_partner)
    → let a = c.args in
    (c.has_partner.result ≡ true) ↔ Partner a.c (set_at a.alike.now (alike_row a.channel (lowest_of c.loop-u.rest))) a.t
asks c = rw (class-is (goal.at.After-has_partner c).After-alike_to-class) at c.has_partner.ensures

never : (c : Else-has_partner)
    → let a = c.args in
    Partner a.c (set_at a.alike.now (alike_row a.channel (lowest_of c.loop-u.rest))) a.t → ⊥
never c h = false≢true (sym c.if-has_partner.false ∙ (asks (goal.at.Else-has_partner c).After-has_partner).1 h)

pub returns-then-has_partner : goal.returns-then-has_partner
returns-then-has_partner c = record {
  found = λ F rows inside.
      (λ h. (_, (searched_found _ _ _ c.in-Some.ensures.0 (c.loop-u.invariant F rows inside), (asks (goal.at.returns-then-has_partner c).After-has_partner).0 c.if-has_partner.true)), λ h. refl);
}

pub but_lowest-requires : goal.but_lowest-requires
but_lowest-requires c = c.in-Some.ensures.0

pub loop-u-smaller : goal.loop-u-smaller
loop-u-smaller c =
    rw (c.minus-rest.ensures, c.but_lowest.ensures) (fewer_left _ _ c.in-Some.ensures.0)

pub loop-u-preserved : goal.loop-u-preserved
loop-u-preserved c F rows inside =
    let a = c.args in
    let g = c.loop-u.invariant F rows inside in
    let within = inside _ (searched_found _ _ _ c.in-Some.ensures.0 g) in
    rw (c.minus-rest.ensures, c.but_lowest.ensures, class-is (goal.at.loop-u-preserved c).After-alike_to-class)
    (searched_more _ _ _ _ (never (goal.at.loop-u-preserved c).Else-has_partner)
    (λ u h q. never (goal.at.loop-u-preserved c).Else-has_partner (same_partners F a.alike.now a.channel rows a.c a.t (lowest_of c.loop-u.rest) u within h q)) g)

pub returns : goal.returns
returns c =
    let none = c.in_default.ensures in record {
      found = λ F rows inside.
          (λ h. absurd (false≢true h), λ h. absurd (searched_all _ _ _ none (c.loop-u.invariant F rows inside) h.0 h.1.0 h.1.1));
    }
