use Rattle.std.proofs.Common.{refl}
use Rattle.dj_model.specs.NativeKinds.{native_signature}
use Rattle.dj_natives_tests.proofs.taken.rows.Goals as goal

pub returns : goal.returns
unfolding native_signature
returns c = (
  record { kinds = refl; asks = λ args. refl; fits = λ h args chars. tt },
  (
    record { kinds = refl; asks = λ args. refl; fits = λ h args chars. tt },
    (
      record { kinds = refl; asks = λ args. refl; fits = λ h args chars. tt },
      (
        record { kinds = refl; asks = λ args. refl; fits = λ h args chars. tt },
        (
          record { kinds = refl; asks = λ args. refl; fits = λ h args chars. tt },
          (
            record { kinds = refl; asks = λ args. refl; fits = λ h args chars. tt },
            (
              record { kinds = refl; asks = λ args. refl; fits = λ h args chars. tt },
              (
                record { kinds = refl; asks = λ args. refl; fits = λ h args chars. tt },
                (
                  record { kinds = refl; asks = λ args. refl; fits = λ h args chars. tt },
                  (
                    record { kinds = refl; asks = λ args. refl; fits = λ h args chars. tt },
                    (
                      record { kinds = refl; asks = λ args. refl; fits = λ h args chars. tt },
                      (
                        record { kinds = refl; asks = λ args. refl; fits = λ h args chars. tt },
                        (
                          record { kinds = refl; asks = λ args. refl; fits = λ h args chars. tt },
                          (
                            record { kinds = refl; asks = λ args. refl; fits = λ h args chars. tt },
                            (
                              record { kinds = refl; asks = λ args. refl; fits = λ h args chars. tt },
                              (
                                record { kinds = refl; asks = λ args. refl; fits = λ h args chars. tt },
                                (
                                  record { kinds = refl; asks = λ args. refl; fits = λ h args chars. tt },
                                  (
                                    record { kinds = refl; asks = λ args. refl; fits = λ h args chars. chars refl },
                                    (
                                      record { kinds = refl; asks = λ args. refl; fits = λ h args chars. tt },
                                      (
                                        record { kinds = refl; asks = λ args. refl; fits = λ h args chars. tt },
                                        (
                                          record { kinds = refl; asks = λ args. refl; fits = λ h args chars. tt },
                                          (
                                            record { kinds = refl; asks = λ args. refl; fits = λ h args chars. tt },
                                            (
                                              record { kinds = refl; asks = λ args. refl; fits = λ h args chars. tt },
                                              (
                                                record { kinds = refl; asks = λ args. refl; fits = λ h args chars. tt },
                                                (
                                                  record { kinds = refl; asks = λ args. refl; fits = λ h args chars. tt },
                                                  (
                                                    record { kinds = refl; asks = λ args. refl; fits = λ h args chars. tt },
                                                    (
                                                      record { kinds = refl; asks = λ args. refl; fits = λ h args chars. tt },
                                                      (
                                                        record { kinds = refl; asks = λ args. refl; fits = λ h args chars. tt },
                                                        (
                                                          record { kinds = refl; asks = λ args. refl; fits = λ h args chars. tt },
                                                          (
                                                            record { kinds = refl; asks = λ args. refl; fits = λ h args chars. tt },
                                                            (
                                                              record { kinds = refl; asks = λ args. refl; fits = λ h args chars. tt },
                                                              (
                                                                record { kinds = refl; asks = λ args. refl; fits = λ h args chars. tt },
                                                                (
                                                                  record { kinds = refl; asks = λ args. refl; fits = λ h args chars. tt },
                                                                  (
                                                                    record { kinds = refl; asks = λ args. refl; fits = λ h args chars. tt },
                                                                    (
                                                                      record { kinds = refl; asks = λ args. refl; fits = λ h args chars. tt },
                                                                      (
                                                                        record { kinds = refl; asks = λ args. refl; fits = λ h args chars. tt },
                                                                        (
                                                                          record { kinds = refl; asks = λ args. refl; fits = λ h args chars. tt },
                                                                          (
                                                                            record { kinds = refl; asks = λ args. refl; fits = λ h args chars. tt },
                                                                            (
                                                                              record { kinds = refl; asks = λ args. refl; fits = λ h args chars. tt },
                                                                              (
                                                                                record { kinds = refl; asks = λ args. refl; fits = λ h args chars. tt },
                                                                                (
                                                                                  record { kinds = refl; asks = λ args. refl; fits = λ h args chars. tt },
                                                                                  (
                                                                                    record { kinds = refl; asks = λ args. refl; fits = λ h args chars. tt },
                                                                                    (
                                                                                      record { kinds = refl; asks = λ args. refl; fits = λ h args chars. tt },
                                                                                      (
                                                                                        record { kinds = refl; asks = λ args. refl; fits = λ h args chars. tt },
                                                                                        (
                                                                                          record { kinds = refl; asks = λ args. refl; fits = λ h args chars. tt },
                                                                                          (
                                                                                            record { kinds = refl; asks = λ args. refl; fits = λ h args chars. tt },
                                                                                            (
                                                                                              record { kinds = refl; asks = λ args. refl; fits = λ h args chars. tt },
                                                                                              (
                                                                                                record { kinds = refl; asks = λ args. refl; fits = λ h args chars. tt },
                                                                                                (
                                                                                                  record { kinds = refl; asks = λ args. refl; fits = λ h args chars. tt },
                                                                                                  (
                                                                                                    record { kinds = refl; asks = λ args. refl; fits = λ h args chars. tt },
                                                                                                    (
                                                                                                      record { kinds = refl; asks = λ args. refl; fits = λ h args chars. tt },
                                                                                                      tt,
                                                                                                    ),
                                                                                                  ),
                                                                                                ),
                                                                                              ),
                                                                                            ),
                                                                                          ),
                                                                                        ),
                                                                                      ),
                                                                                    ),
                                                                                  ),
                                                                                ),
                                                                              ),
                                                                            ),
                                                                          ),
                                                                        ),
                                                                      ),
                                                                    ),
                                                                  ),
                                                                ),
                                                              ),
                                                            ),
                                                          ),
                                                        ),
                                                      ),
                                                    ),
                                                  ),
                                                ),
                                              ),
                                            ),
                                          ),
                                        ),
                                      ),
                                    ),
                                  ),
                                ),
                              ),
                            ),
                          ),
                        ),
                      ),
                    ),
                  ),
                ),
              ),
            ),
          ),
        ),
      ),
    ),
  ),
)
