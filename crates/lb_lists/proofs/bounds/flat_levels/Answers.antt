use Rattle.std.proofs.Common.{◌++◌, ◌∷◌, [], ap, ◌∙◌}
use Rattle.lb_lists.proofs.bounds.flat_levels.Goals as goal

pub returns-clause-starts : goal.returns-clause-starts
returns-clause-starts g c =
    let none = c.in_ok-push_levels.ensures [] (record {
      starts_are = c.in_ok-push.ensures.items
          ∙ ap (λ l. l ++ 0 ∷ []) c.new-starts.ensures.items;
      places_are = c.new-places.ensures.items;
      bytes_are = c.new-rises.ensures.items;
    }) in
    (c.in_ok-push_levels-2.ensures c.args.any.now none).starts_are

pub returns-clause-places : goal.returns-clause-places
returns-clause-places g c =
    let none = c.in_ok-push_levels.ensures [] (record {
      starts_are = c.in_ok-push.ensures.items
          ∙ ap (λ l. l ++ 0 ∷ []) c.new-starts.ensures.items;
      places_are = c.new-places.ensures.items;
      bytes_are = c.new-rises.ensures.items;
    }) in
    (c.in_ok-push_levels-2.ensures c.args.any.now none).places_are

pub returns-clause-rises : goal.returns-clause-rises
returns-clause-rises g c =
    let none = c.in_ok-push_levels.ensures [] (record {
      starts_are = c.in_ok-push.ensures.items
          ∙ ap (λ l. l ++ 0 ∷ []) c.new-starts.ensures.items;
      places_are = c.new-places.ensures.items;
      bytes_are = c.new-rises.ensures.items;
    }) in
    (c.in_ok-push_levels-2.ensures c.args.any.now none).bytes_are
