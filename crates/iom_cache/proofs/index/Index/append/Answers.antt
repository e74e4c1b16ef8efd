use Rattle.std.proofs.Common.{◌≡◌, ◌+◌, ◌%◌, ◌<◌, ℕ, ◌∷◌, [], ◌++◌, get_or, set, length, Option, Some, None, sym, subst, arith}
use Rattle.iom_nested.specs.declared.translation.Hit.{Hit}
use Rattle.iom_cache.specs.declared.index.Index.{Index}
use Rattle.iom_cache.specs.declared.key.Key.{Key}
use Rattle.iom_cache.specs.Index.{IsIndex, counted_more}
use Rattle.iom_cache.proofs.Indexed.{appended_none, appended_some}
use Rattle.iom_cache.proofs.index.Index.append.Goals as goal

pub returns-in_default : goal.returns-in_default
returns-in_default c = λ places count h.
    let room : length places < 64 = omega arith in
    let is : c.args.place.now ≡ None = cc in
    subst (λ (place : Option (Key × Hit)). IsIndex c.args.self.now (places ++ place ∷ [])) (sym is) (appended_none c.args.self.now places room h)

pub returns-in-Some : goal.returns-in-Some
returns-in-Some c = λ places count h.
    let index = c.args.self.now in
    let own = c.bucket_of-bucket.result in
    let entry : Key × Hit = (c.in-Some.key, c.in-Some.field-0-1) in
    let room : length places < 64 = omega arith in
    let After : ℕ → Index = λ n. record {
      heads = set index.heads own ((index.first + n) % 64);
      links = set index.links ((index.first + n) % 64) (get_or index.heads own 0);
      first = index.first;
      counts = counted_more index.counts c.tag_of.result;
    } in
    rw c.count_more.ensures (subst (λ (place : Option (Key × Hit)). IsIndex (After c.args.at) (places ++ place ∷ [])) (sym c.in-Some.is)
    (subst (λ (n : ℕ). IsIndex (After n) (places ++ Some entry ∷ [])) count
    (appended_some index places entry own c.bucket_of-bucket.ensures.bucket c.bucket_of-bucket.ensures.few c.tag_of.result c.tag_of.ensures.tag room h)))
