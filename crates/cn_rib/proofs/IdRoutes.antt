-- Tables of ids under a pool, and updates that change them. Other crates may cite these.
use Rattle.std.proofs.Common.{◌≡◌, ◌<◌, Bool, true, false, cond, List, length, Option, Some, None, sym, ap, ◌∙◌, subst, arith}
use Rattle.std.specs.Prelude.{Err, Ok, OnErr, OnOk, Result, option_map}
use Rattle.std.specs.List.{list_any}
use Rattle.std.specs.FinMap as fin
use Rattle.std.proofs.lemmas.Option.{none-some}
use Rattle.cn_base.specs.Cidr.{Cidr, same_prefix}
use Rattle.cn_base.specs.declared.ids.Asn.{Asn}
use Rattle.cn_wire.specs.declared.update.Attrs.{Attrs}
use Rattle.cn_wire.specs.declared.update.Update.{Update}
use Rattle.cn_pool.specs.Pool.{Extends}
use Rattle.cn_pool.proofs.Pools.{path_kept}
use Rattle.cn_rib.specs.Interned.{IdRoutes, IsSaid, IsUnder, SameRoutesLaw, attributes_under, routes_under}
use Rattle.cn_rib.specs.PrefixMaps.{put_each, remove_all}
use Rattle.cn_rib.specs.Updates.{announce_all, apply_update, said_of, withdraw_all}
use Rattle.cn_rib.specs.declared.interned.Interned.{Interned}
use Rattle.cn_rib.proofs.Keyed.{get_empty, get_inserted_all, get_removed_all}
use Rattle.cn_rib.proofs.Mapped.{put_each-mapped, remove_all-mapped, same-mapped}

-- ---- a longer pool

pub under_longer : (old new : List (List Asn)) (m : IdRoutes) → IsUnder old m → Extends old new
    → IsUnder new m
under_longer old new m is more =
    record { each = λ p x e. let within = is.each p x e in omega (arith, within, more.longer) }

pub same_routes : SameRoutesLaw
same_routes old new m is more = (
  under_longer old new m is more,
  same-mapped (attributes_under new) (attributes_under old) m (λ q x e i. record {
    path = path_kept old new x.path more (is.each q x e) i;
    origin = x.origin;
  }),
)

pub empty_under : (pool : List (List Asn)) → IsUnder pool fin.empty
empty_under pool = record { each = λ p x e. absurd (none-some x (sym (get_empty p) ∙ e)) }

-- ---- an update

module _ (pool : List (List Asn)) (m : IdRoutes) (u : Update) (said : Option Interned)
    (is : IsSaid pool u said) where
  -- what an update makes of the ids stands for what it makes of the routes
  pub applied_under : routes_under pool (put_each (remove_all m u.withdrawn) u.announced said)
      ≡ apply_update (routes_under pool m) u
  unfolding apply_update
  applied_under =
      put_each-mapped (attributes_under pool) (remove_all m u.withdrawn) u.announced said
      ∙ ap (λ n. put_each n u.announced (option_map (attributes_under pool) said))
      (remove_all-mapped (attributes_under pool) m u.withdrawn)
      ∙ announced said is
    where
      with_attrs : (o : Option Attrs) (x : Interned)
          → option_map said_of o ≡ Some (attributes_under pool x)
          → put_each (withdraw_all (routes_under pool m) u.withdrawn) u.announced
          (Some (attributes_under pool x))
          ≡ announce_all (withdraw_all (routes_under pool m) u.withdrawn) o u.announced
      with_attrs None x e = absurd (none-some (attributes_under pool x) e)
      with_attrs (Some a) x e =
          ap (put_each (withdraw_all (routes_under pool m) u.withdrawn) u.announced) (sym e)

      announced : (o : Option Interned) → IsSaid pool u o
          → put_each (withdraw_all (routes_under pool m) u.withdrawn) u.announced
          (option_map (attributes_under pool) o)
          ≡ announce_all (withdraw_all (routes_under pool m) u.withdrawn) u.attrs u.announced
      announced None e =
          ap (λ o. announce_all (withdraw_all (routes_under pool m) u.withdrawn) o u.announced)
          (sym e)
      announced (Some x) e = with_attrs u.attrs x e.1

  under_removed : IsUnder pool m → IsUnder pool (remove_all m u.withdrawn)
  under_removed was = record {
    each = λ p x e.
        was.each p x
        (kept (list_any (same_prefix p) u.withdrawn) (fin.get m p) x
        (sym (get_removed_all m u.withdrawn p) ∙ e));
  }
    where
      kept : (b : Bool) (o : Option Interned) (x : Interned) → cond b None o ≡ Some x → o ≡ Some x
      kept true o x e = absurd (none-some x e)
      kept false o x e = e

  -- and its ids are those of the pool
  pub applied_within : IsUnder pool m
      → IsUnder pool (put_each (remove_all m u.withdrawn) u.announced said)
  applied_within was = put said is
    where
      either : (y : Interned) → y.path.0 < length pool → (b : Bool) (o : Option Interned)
          (x : Interned) → ((z : Interned) → o ≡ Some z → z.path.0 < length pool)
          → cond b (Some y) o ≡ Some x → x.path.0 < length pool
      either y within true o x rest e =
          subst (λ (z : Option Interned). in_some z) e within
        where
          in_some : Option Interned → Type 0
          in_some None = Unit {0}
          in_some (Some z) = z.path.0 < length pool
      either y within false o x rest e = rest x e

      put : (o : Option Interned) → IsSaid pool u o
          → IsUnder pool (put_each (remove_all m u.withdrawn) u.announced o)
      put None e = under_removed was
      put (Some y) e = record {
        each = λ p x at.
            either y e.0 (list_any (same_prefix p) u.announced)
            (fin.get (remove_all m u.withdrawn) p) x ((under_removed was).each p)
            (sym (get_inserted_all (remove_all m u.withdrawn) u.announced y p) ∙ at);
      }

-- ---- the same, of what the code holds

module _ (old pool : List (List Asn)) (m was : IdRoutes) (u : Update) (said : Option Interned)
    (ws ps : List Cidr) (here : m ≡ was) (withdrawn : ws ≡ u.withdrawn)
    (announced : ps ≡ u.announced)
    (under : IsUnder old was) (more : Extends old pool) (is : IsSaid pool u said) where
  same_change : put_each (remove_all m ws) ps said
      ≡ put_each (remove_all was u.withdrawn) u.announced said
  same_change = λ i. put_each (remove_all (here i) (withdrawn i)) (announced i) said

  pub applied_of : (new : IdRoutes) → new ≡ put_each (remove_all m ws) ps said
      → routes_under pool new ≡ apply_update (routes_under old was) u
  applied_of new made =
      ap (routes_under pool) (made ∙ same_change)
      ∙ applied_under pool was u said is
      ∙ ap (λ n. apply_update n u) (same_routes old pool was under more).1

  -- whether or not there was memory
  pub under_after : {T E : Type 0} (r : Result T E) (new : IdRoutes)
      → OnOk r (new ≡ put_each (remove_all m ws) ps said) → OnErr r (new ≡ m)
      → IsUnder pool new
  under_after (Ok x) new made kept =
      subst (IsUnder pool) (sym (made ∙ same_change))
      (applied_within pool was u said is (under_longer old pool was under more))
  under_after (Err e) new made kept =
      subst (IsUnder pool) (sym (kept ∙ here)) (under_longer old pool was under more)
