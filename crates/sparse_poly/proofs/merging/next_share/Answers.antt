use Rattle.std.proofs.Common.{rules, ◌≡◌, ◌∷◌}
use Rattle.sparse_poly.proofs.Merges.{IsNext-first, IsNext-second, IsNext-both}
use Rattle.sparse_poly.proofs.merging.next_share.Goals as goal

pub returns-in-Some : goal.returns-in-Some
returns-in-Some c =
    let first : c.args.first.now.items ≡ c.in-Some.x ∷ c.pop_front.new.self.items = search rules in
    IsNext-first _ _ _ c.in-Some.x first (c.in-First.ensures.1 _ _ first)

pub returns-in-Some-pop_front : goal.returns-in-Some-pop_front
returns-in-Some-pop_front c =
    let second : c.args.second.now.items ≡ c.in-Some-pop_front.y ∷ c.pop_front-in-Second.new.self.items = search rules in
    IsNext-second _ _ _ c.in-Some-pop_front.y second (c.in-Second.ensures.1 _ _ second)

pub returns-in-Some-pop_front-3 : goal.returns-in-Some-pop_front-3
returns-in-Some-pop_front-3 c =
    let first : c.args.first.now.items ≡ c.in-Some-pop_front-2.x ∷ c.pop_front-in-Both.new.self.items = search rules in
    let second : c.args.second.now.items ≡ c.in-Some-pop_front-3.y ∷ c.pop_front-in-Both-2.new.self.items = search rules in
    let same : c.in-Some-pop_front-2.x.monomial ≡ c.in-Some-pop_front-3.y.monomial = c.in-Both.ensures.2 _ _ _ _ first second in
    IsNext-both _ _ _ _ c.in-Some-pop_front-2.x c.in-Some-pop_front-3.y c.joined.result first second same c.joined.ensures.monomial c.joined.ensures.sum
